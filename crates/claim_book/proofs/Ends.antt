-- How paths end: laws of legal journals.
use Rattle.std.proofs.Common.{◌≡◌, ℕ, zero, suc, ◌<◌, ◌≤◌, List, [], ◌∷◌, ◌++◌, length, Bool, true, false, not, ◌||◌, ◌&&◌, cond, Some, None, ◌⊎◌, inl, inr, refl, sym, ap, subst, ◌∙◌, arith}
use Rattle.std.specs.Prelude.{find, drop, slice_get, IsSome}
use Rattle.std.specs.List.{AllByRecursion, All}
use Rattle.std.proofs.lemmas.List.Elements.{All-from_recursion, recursion_from_All}
use Rattle.std.proofs.lemmas.Bool.{or_cases, or_left, or_right, and_parts, and_from, not-true, eqb-true, lt-ltb, cases_lt, eq-eqb, ne_eqb}
use Rattle.kad_base.specs.declared.types.Contact.{Contact}
use Rattle.kad_base.specs.Contacts.{same, among, without}
use Rattle.kad_base.proofs.Contacts.{same_exact, same_itself, among_more}
use Rattle.kad_distance.specs.KClosest.{k_closest}
use Rattle.claim_book.specs.declared.types.Setting.{Setting}
use Rattle.claim_book.specs.declared.types.Thing.{Thing}
use Rattle.claim_book.specs.declared.types.Entry.{Entry}
use Rattle.claim_book.specs.declared.types.Entry.TheVariants.{Seed, Ask, Heard, Lost, Note, Taken, Held, Turned, Rejected, Skipped}
use Rattle.claim_book.specs.Journal.{on_path, path_of, ask_on, things_of, took, path, asked, asked_on, theirs, own, askers, holders, answered, failed, open_on, alive, things, settled, unsettled, first_unsettled, may_ask}
use Rattle.claim_book.specs.Legal.{Fits, Legal, is_of, IsSeed}
use Rattle.claim_book.specs.RunOut.{RunOut}
use Rattle.claim_book.specs.Result.{result_of}
use Rattle.claim_book.proofs.More.{path_more, asked_on_more, things_more, last_fits, along}
use Rattle.claim_book.proofs.Among.{among_without, none_found, among_none}
use Rattle.claim_book.proofs.Closest.{closest_within, closest_of_fewer}
use Rattle.claim_book.proofs.Claims.{may_ask_says, may_ask_on_path, open_says, among_left, among_right, answered_asked, asked_on_path, path_took, no_true, own_on_path, path_own, alive_says, own_alive, asked_split, theirs_asked, asked_not_theirs}

-- a contact of each of a list
pub each_from_all : (P : Contact → Type 0) (cs : List Contact) → All P cs → (c : Contact) → among cs c ≡ true → P c
each_from_all P cs h c t = by_each cs (recursion_from_All P cs h) t
  where
    by_each : (xs : List Contact) → AllByRecursion P xs → among xs c ≡ true → P c
    by_each [] a t = absurd cc
    by_each (x ∷ xs) a t = elim (or_cases (same c x) (among xs c) t) [ inl e ↦ subst P (sym (same_exact c x e)) a.0 | inr r ↦ by_each xs a.1 r ]

pub all_from_each : (P : Contact → Type 0) (cs : List Contact) → ((c : Contact) → among cs c ≡ true → P c) → All P cs
all_from_each P cs f = All-from_recursion P cs (by_each cs f)
  where
    by_each : (xs : List Contact) → ((c : Contact) → among xs c ≡ true → P c) → AllByRecursion P xs
    by_each [] f = tt
    by_each (x ∷ xs) f = (f x (or_left (same x x) (among xs x) (same_itself x)), by_each xs (λ c t. f c (or_right (same c x) (among xs c) t)))

-- a path that asked an asked contact
pub asked_by_some : (c : Contact) (J : List Entry) → among (asked J) c ≡ true → (q : ℕ) × (slice_get (askers c J) 0 ≡ Some q) × (among (asked_on q J) c ≡ true)
unfolding asked asked_on askers
asked_by_some c [] h = absurd cc
asked_by_some c (Ask n d ∷ J) h =
    elim (same c d) as (λ b. same c d ≡ b → (q : ℕ) × (slice_get (cond b (n ∷ []) [] ++ askers c J) 0 ≡ Some q) × (among (on_path q n (d ∷ []) ++ asked_on q J) c ≡ true)) [
      | true ↦ λ e. (n, refl, among_left (on_path n n (d ∷ [])) (asked_on n J) c (here n d e))
      | false ↦ λ e.
          let r = asked_by_some c J (sym (ap (λ b. (b || false) || among (asked J) c) e) ∙ sym (among_more (d ∷ []) (asked J) c) ∙ h) in
          (r.0, r.1, among_right (on_path r.0 n (d ∷ [])) (asked_on r.0 J) c r.2)
    ] refl
  where
    here : (n : ℕ) (d : Contact) → same c d ≡ true → among (on_path n n (d ∷ [])) c ≡ true
    here n d e = ap (λ b. among (cond b (d ∷ []) []) c) (eq-eqb n n refl) ∙ ap (λ b. b || false) e
asked_by_some c (e ∷ J) h = asked_by_some c J h

here : (n : ℕ) (c d : Contact) → same c d ≡ true → among (on_path n n (d ∷ [])) c ≡ true
here n c d e = ap (λ b. among (cond b (d ∷ []) []) c) (eq-eqb n n refl) ∙ ap (λ b. b || false) e

-- a path that has a taken contact
pub held_by_some : (c : Contact) (J : List Entry) → among (took J) c ≡ true → (q : ℕ) × (slice_get (holders c J) 0 ≡ Some q) × (among (path q J) c ≡ true)
unfolding took path holders
held_by_some c [] h = absurd cc
held_by_some c (Seed n d ∷ J) h =
    elim (same c d) as (λ b. same c d ≡ b → (q : ℕ) × (slice_get (cond b (n ∷ []) [] ++ holders c J) 0 ≡ Some q) × (among (on_path q n (d ∷ []) ++ path q J) c ≡ true)) [
      | true ↦ λ e. (n, refl, among_left (on_path n n (d ∷ [])) (path n J) c (here n c d e))
      | false ↦ λ e.
          let r = held_by_some c J (sym (ap (λ b. (b || false) || among (took J) c) e) ∙ sym (among_more (d ∷ []) (took J) c) ∙ h) in
          (r.0, r.1, among_right (on_path r.0 n (d ∷ [])) (path r.0 J) c r.2)
    ] refl
held_by_some c (Taken n d ∷ J) h =
    elim (same c d) as (λ b. same c d ≡ b → (q : ℕ) × (slice_get (cond b (n ∷ []) [] ++ holders c J) 0 ≡ Some q) × (among (on_path q n (d ∷ []) ++ path q J) c ≡ true)) [
      | true ↦ λ e. (n, refl, among_left (on_path n n (d ∷ [])) (path n J) c (here n c d e))
      | false ↦ λ e.
          let r = held_by_some c J (sym (ap (λ b. (b || false) || among (took J) c) e) ∙ sym (among_more (d ∷ []) (took J) c) ∙ h) in
          (r.0, r.1, among_right (on_path r.0 n (d ∷ [])) (path r.0 J) c r.2)
    ] refl
held_by_some c (e ∷ J) h = held_by_some c J h

-- nothing is on a path at or past the number of paths
pub record Beyond (q : ℕ) (J : List Entry) : Type 0 where
  pub no_path : path q J ≡ []
  pub no_things : things q J ≡ []
  pub none_asked : asked_on q J ≡ []

off_path : {A : Type 0} (q n : ℕ) (xs : List A) → (n ≡ q → ⊥) → on_path q n xs ≡ []
off_path q n xs ne = ap (λ b. cond b xs []) (ne_eqb n q ne)

none_first : (q : ℕ) (J : List Entry) (t : Thing) → things q J ≡ [] → first_unsettled q J ≡ Some t → ⊥
unfolding first_unsettled unsettled
none_first q J t e f = past (length (settled q J)) (sym (ap (λ l. slice_get (drop (length (settled q J)) l) 0) e) ∙ f)
  where
    past : (n : ℕ) → slice_get {X = Thing} (drop n []) 0 ≡ Some t → ⊥
    past zero f = absurd cc
    past (suc n) f = absurd cc

record OffPath (q : ℕ) (e : Entry) : Type 0 where
  no_path : path_of q e ≡ []
  no_things : things_of q e ≡ []
  none_asked : ask_on q e ≡ []

off_step : (s : Setting) (J : List Entry) (e : Entry) (q : ℕ) → 0 < s.paths → s.paths ≤ q → Beyond q J → Fits s J e → OffPath q e
off_step s J (Seed n d) q z le b f =
    let ne : n ≡ q → ⊥ = (λ e. let g = f.is_path in absurd (omega arith)) in
    record { no_path = off_path q n (d ∷ []) ne; no_things = refl; none_asked = refl }
off_step s J (Ask n d) q z le b f =
    let ne : n ≡ q → ⊥ = (λ e. let i = may_ask_on_path s n J d f in let j = among_none (path q J) b.no_path d in let k = ap (λ m. among (path m J) d) e in absurd cc) in
    record { no_path = refl; no_things = refl; none_asked = off_path q n (d ∷ []) ne }
off_step s J (Heard n d reports) q z le b f =
    let ne : n ≡ q → ⊥ = (λ e. let i = (open_says n J d f.0).0 in let j = among_none (asked_on q J) b.none_asked d in let k = ap (λ m. among (asked_on m J) d) e in absurd cc) in
    record { no_path = refl; no_things = off_path q n _ ne; none_asked = refl }
off_step s J (Taken n d) q z le b f =
    let ne : n ≡ q → ⊥ = (λ e. none_first q J _ b.no_things (ap (λ m. first_unsettled m J) (sym e) ∙ f.0.first)) in
    record { no_path = off_path q n (d ∷ []) ne; no_things = refl; none_asked = refl }
off_step s J other q z le b f = record { no_path = refl; no_things = refl; none_asked = refl }

both_nil : {A : Type 0} (xs ys zs : List A) → zs ≡ xs ++ ys → xs ≡ [] → ys ≡ [] → zs ≡ []
both_nil xs ys zs e f g = e ∙ ap (λ l. l ++ ys) f ∙ g

pub beyond : (s : Setting) (J : List Entry) → 0 < s.paths → Legal s J → (q : ℕ) → s.paths ≤ q → Beyond q J
unfolding path things asked_on
beyond s J z =
    along (λ J. (q : ℕ) → s.paths ≤ q → Beyond q J) s (λ q le. record { no_path = refl; no_things = refl; none_asked = refl })
    (λ J e l d f q le.
    let b = d q le in
    let o = off_step s J e q z le b f in
    record {
      no_path = both_nil (path q J) (path_of q e) (path q (J ++ e ∷ [])) (path_more q J e) b.no_path o.no_path;
      no_things = both_nil (things q J) (things_of q e) (things q (J ++ e ∷ [])) (things_more q J e) b.no_things o.no_things;
      none_asked = both_nil (asked_on q J) (ask_on q e) (asked_on q (J ++ e ∷ [])) (asked_on_more q J e) b.none_asked o.none_asked;
    })
    J

-- a contact of a path is on one of the lookup's paths
pub path_below : (s : Setting) (J : List Entry) (q : ℕ) (c : Contact) → 0 < s.paths → Legal s J → among (path q J) c ≡ true → q < s.paths
path_below s J q c z l h =
    elim (cases_lt q s.paths) [
      | inl lt ↦ lt
      | inr ge ↦ (let e = among_none (path q J) (beyond s J z l q ge).no_path c in absurd cc)
    ]

pub first_below : (s : Setting) (J : List Entry) (q : ℕ) (t : Thing) → 0 < s.paths → Legal s J → first_unsettled q J ≡ Some t → q < s.paths
first_below s J q t z l h =
    elim (cases_lt q s.paths) [
      | inl lt ↦ lt
      | inr ge ↦ absurd (none_first q J t (beyond s J z l q ge).no_things h)
    ]

-- what was taken is a path's own: its asker's, or where there is none that of any path that has it
pub own_by_some : (s : Setting) (J : List Entry) (c : Contact) → Legal s J → among (took J) c ≡ true → (q : ℕ) × (among (own q J) c ≡ true)
own_by_some s J c l h =
    elim (among (asked J) c) as (λ b. among (asked J) c ≡ b → (q : ℕ) × (among (own q J) c ≡ true)) [
      | true ↦ λ a. (let by = asked_by_some c J a in (by.0, path_own by.0 J c (asked_on_path s J l by.0 c by.2) (asked_not_theirs s J l by.0 c by.2)))
      | false ↦ λ a. (let by = held_by_some c J h in (by.0, path_own by.0 J c by.2 (no_true (among (theirs by.0 J) c) (λ t. let u = theirs_asked by.0 J c t in absurd cc))))
    ] refl

-- where all paths have run out, what was found has answered
pub found_answered : (s : Setting) (J : List Entry) (c : Contact) → 0 < s.paths → Legal s J → ((p : ℕ) → p < s.paths → RunOut s p J) → among (result_of s J) c ≡ true → among (answered J) c ≡ true
unfolding result_of
found_answered s J c z l over h =
    let all = closest_within s.target s.k (without (took J) (failed J)) c h in
    let parts = and_parts (among (took J) c) (not (among (failed J) c)) (sym (among_without (took J) (failed J) c) ∙ all) in
    let by = own_by_some s J c l parts.0 in
    let here = own_alive by.0 J c by.1 (not-true (among (failed J) c) parts.1) in
    let sub : (x : Contact) → among (alive by.0 J) x ≡ true → among (without (took J) (failed J)) x ≡ true =
    (λ x t. let says = alive_says by.0 J x t in
    among_without (took J) (failed J) x ∙ and_from (among (took J) x) (not (among (failed J) x)) (path_took by.0 J x (own_on_path by.0 J x says.0).0) (ap not says.1)) in
    each_from_all (λ x. among (answered J) x ≡ true) _ (over by.0 (path_below s J by.0 c z l (own_on_path by.0 J c by.1).0)).all_answered c
    (closest_of_fewer s.target s.k (alive by.0 J) (without (took J) (failed J)) c sub here h)

-- none may be asked: each of the closest was asked, where fewer are open than may be
pub none_may_ask : (s : Setting) (p : ℕ) (J : List Entry) → length (open_on p J) < s.alpha → may_ask s p J ≡ None → (c : Contact) → among (k_closest s.target s.k (alive p J)) c ≡ true → among (asked J) c ≡ true
unfolding may_ask
none_may_ask s p J few e c h =
    let f : find (λ x. not (among (asked J) x)) (k_closest s.target s.k (alive p J)) ≡ None = sym (ap (λ b. cond b (find (λ x. not (among (asked J) x)) (k_closest s.target s.k (alive p J))) None) (lt-ltb (length (open_on p J)) s.alpha few)) ∙ e in
    turned (among (asked J) c) (none_found (λ x. not (among (asked J) x)) (k_closest s.target s.k (alive p J)) f c h)
  where
    turned : (b : Bool) → not b ≡ false → b ≡ true
    turned true e = refl
    turned false e = absurd cc

-- an alive contact of the path that was asked, while none is open, has answered
pub alive_asked_answered : (s : Setting) (p : ℕ) (J : List Entry) (c : Contact) → Legal s J → open_on p J ≡ [] → among (alive p J) c ≡ true → among (asked J) c ≡ true → among (answered J) c ≡ true
unfolding open_on
alive_asked_answered s p J c l none_open here h =
    let on = alive_says p J c here in
    let ask = asks (among (asked_on p J) c) (among (theirs p J) c) (sym (asked_split p J c) ∙ h) (own_on_path p J c on.0).1 in
    let gone = sym (among_without (asked_on p J) (answered J ++ failed J) c) ∙ among_none (open_on p J) none_open c in
    ended (among (asked_on p J) c) (among (answered J ++ failed J) c) (among (answered J) c) (among (failed J) c) gone ask (among_more (answered J) (failed J) c) on.1
  where
    asks : (a t : Bool) → (a || t) ≡ true → t ≡ false → a ≡ true
    asks true t e f = refl
    asks false t e f = sym f ∙ e

    ended : (a e n f : Bool) → (a && not e) ≡ false → a ≡ true → e ≡ (n || f) → f ≡ false → n ≡ true
    ended true true true f g h i j = refl
    ended true true false true g h i j = absurd cc
    ended true true false false g h i j = absurd cc
    ended true false n f g h i j = absurd cc
    ended false e n f g h i j = absurd cc

-- a path that waits for nothing has run out or can ask
pub over_or_ask : (s : Setting) (J : List Entry) (p : ℕ) → Legal s J → 1 ≤ s.alpha → open_on p J ≡ [] → unsettled p J ≡ [] → RunOut s p J ⊎ IsSome (may_ask s p J)
over_or_ask s J p l alpha none_open none_left =
    elim (may_ask s p J) as (λ o. may_ask s p J ≡ o → RunOut s p J ⊎ IsSome o) [
      | Some c ↦ λ e. inr refl
      | None ↦ λ e.
          let few : length (open_on p J) < s.alpha = (let z = ap length none_open in omega arith) in
          inl (record {
            none_open = none_open;
            settled = none_left;
            all_answered = all_from_each (λ c. among (answered J) c ≡ true) (k_closest s.target s.k (alive p J))
                (λ c h. alive_asked_answered s p J c l none_open (closest_within s.target s.k (alive p J) c h) (none_may_ask s p J few e c h));
          })
    ] refl

-- a path that has run out may ask none
pub over_asks_none : (s : Setting) (p : ℕ) (J : List Entry) (c : Contact) → Legal s J → RunOut s p J → may_ask s p J ≡ Some c → ⊥
over_asks_none s p J c l over f =
    let says = may_ask_says s p J c f in
    let did = answered_asked s J l c (each_from_all (λ x. among (answered J) x ≡ true) _ over.all_answered c says.near) in
    let new = says.new in
    absurd cc

none_left_first : (p q : ℕ) (J : List Entry) (t : Thing) → q ≡ p → unsettled p J ≡ [] → first_unsettled q J ≡ Some t → ⊥
unfolding first_unsettled
none_left_first p q J t is e f =
    let g : slice_get {X = Thing} [] 0 ≡ Some t = sym (ap (λ l. slice_get l 0) e) ∙ ap (λ n. slice_get (unsettled n J) 0) (sym is) ∙ f in
    absurd cc

pub stays_out : (s : Setting) (J : List Entry) (e : Entry) (p : ℕ) → Legal s J → Fits s J e → RunOut s p J → is_of p e ≡ true → IsSeed e
stays_out s J (Seed q c) p l f o h = tt
stays_out s J (Ask q c) p l f o h = absurd (over_asks_none s p J c l o (ap (λ n. may_ask s n J) (sym (eqb-true q p h)) ∙ f))
stays_out s J (Heard q c reports) p l f o h = (let a = among_none (open_on p J) o.none_open c in let b = ap (λ n. among (open_on n J) c) (eqb-true q p h) in let g = f.0 in absurd cc)
stays_out s J (Lost q c cause) p l f o h = (let a = among_none (open_on p J) o.none_open c in let b = ap (λ n. among (open_on n J) c) (eqb-true q p h) in absurd cc)
stays_out s J (Note q c) p l f o h = absurd (none_left_first p q J _ (eqb-true q p h) o.settled f)
stays_out s J (Taken q c) p l f o h = absurd (none_left_first p q J _ (eqb-true q p h) o.settled f.0.first)
stays_out s J (Held q c by) p l f o h = absurd (none_left_first p q J _ (eqb-true q p h) o.settled f.0.first)
stays_out s J (Turned q c) p l f o h = absurd (none_left_first p q J _ (eqb-true q p h) o.settled f.0.first)
stays_out s J (Rejected q r) p l f o h = absurd (none_left_first p q J _ (eqb-true q p h) o.settled f.0)
stays_out s J (Skipped q r) p l f o h = absurd (none_left_first p q J _ (eqb-true q p h) o.settled f.0)

-- where a path has run out no entry of it but a seed can follow
pub over_for_good : (s : Setting) (J : List Entry) (e : Entry) (p : ℕ) → Legal s (J ++ e ∷ []) → RunOut s p J → is_of p e ≡ true → IsSeed e
over_for_good s J e p l o h = (let r = last_fits s J e l in stays_out s J e p r.0 r.1 o h)
