-- Who has a contact and who asks it: laws of legal journals.
use Rattle.std.proofs.Common.{◌≡◌, ℕ, ◌<◌, List, [], ◌∷◌, ◌++◌, length, Bool, true, false, not, ◌||◌, cond, Some, None, refl, sym, ap, subst, ◌∙◌, eqb, inl, inr}
use Rattle.std.specs.Prelude.{find, nat_lt}
use Rattle.std.specs.List.{IsDistinct, AllByRecursion}
use Rattle.std.proofs.lemmas.Cmp.{eq_by_cmp_equiv}
use Rattle.std.proofs.lemmas.Map.Keys.{IsDistinct-push}
use Rattle.std.proofs.lemmas.List.{append-nil}
use Rattle.std.proofs.lemmas.Bool.{or_cases, or_left, or_right, or_parts, and_parts, and_from, not-true, eqb-true, eqb-false, eq-eqb, ltb-true}
use Rattle.kad_base.specs.declared.types.ClaimRule.{ClaimRule}
use Rattle.kad_base.specs.declared.types.ClaimRule.TheVariants.{Named, Asked}
use Rattle.kad_base.specs.declared.types.Contact.{Contact}
use Rattle.kad_base.specs.Contacts.{same, among}
use Rattle.kad_base.proofs.Contacts.{same_back, contact_total, among_more}
use Rattle.kad_distance.specs.KClosest.{k_closest}
use Rattle.claim_book.specs.declared.types.Setting.{Setting}
use Rattle.claim_book.specs.declared.types.Entry.{Entry}
use Rattle.claim_book.specs.declared.types.Entry.TheVariants.{Seed, Ask, Heard, Lost, Taken}
use Rattle.claim_book.specs.Journal.{on_path, elsewhere, took_of, path_of, ask_of, ask_on, answer_of, fail_of, took, path, asked, asked_on, theirs, own, answered, failed, open_any, open_on, alive, may_ask}
use Rattle.claim_book.specs.Legal.{IsFree, Fits, Legal}
use Rattle.claim_book.proofs.More.{took_more, path_more, asked_more, asked_on_more, answered_more, failed_more, along}
use Rattle.claim_book.proofs.Among.{among_one, among_without, found_passes, found_among, without_apart}
use Rattle.claim_book.proofs.Closest.{closest_within, distinct_sorted}

-- what an ask says of the contact
pub record MayAsk (s : Setting) (q : ℕ) (J : List Entry) (c : Contact) : Type 0 where
  pub few : length (open_on q J) < s.alpha
  pub near : among (k_closest s.target s.k (alive q J)) c ≡ true
  pub new : among (asked J) c ≡ false

pub may_ask_says : (s : Setting) (q : ℕ) (J : List Entry) (c : Contact) → may_ask s q J ≡ Some c → MayAsk s q J c
unfolding may_ask
may_ask_says s q J c f = by_test (nat_lt (length (open_on q J)) s.alpha) refl f
  where
    by_test : (b : Bool) → nat_lt (length (open_on q J)) s.alpha ≡ b → cond b (find (λ x. not (among (asked J) x)) (k_closest s.target s.k (alive q J))) None ≡ Some c → MayAsk s q J c
    by_test true t e = record {
      few = ltb-true (length (open_on q J)) s.alpha t;
      near = found_among (λ x. not (among (asked J) x)) (k_closest s.target s.k (alive q J)) c e;
      new = not-true (among (asked J) c) (found_passes (λ x. not (among (asked J) x)) (k_closest s.target s.k (alive q J)) c e);
    }
    by_test false t e = absurd cc

pub no_true : (b : Bool) → (b ≡ true → ⊥) → b ≡ false
no_true true n = absurd (n refl)
no_true false n = refl

-- what is a path's own is on it, and no other path asked it
pub own_on_path : (p : ℕ) (J : List Entry) (c : Contact) → among (own p J) c ≡ true → (among (path p J) c ≡ true) × (among (theirs p J) c ≡ false)
unfolding own
own_on_path p J c h =
    let parts = and_parts (among (path p J) c) (not (among (theirs p J) c)) (sym (among_without (path p J) (theirs p J) c) ∙ h) in
    (parts.0, not-true (among (theirs p J) c) parts.1)

pub path_own : (p : ℕ) (J : List Entry) (c : Contact) → among (path p J) c ≡ true → among (theirs p J) c ≡ false → among (own p J) c ≡ true
unfolding own
path_own p J c h out = among_without (path p J) (theirs p J) c ∙ and_from (among (path p J) c) (not (among (theirs p J) c)) h (ap not out)

-- what is alive on a path is its own, and not lost
pub alive_says : (q : ℕ) (J : List Entry) (c : Contact) → among (alive q J) c ≡ true → (among (own q J) c ≡ true) × (among (failed J) c ≡ false)
unfolding alive
alive_says q J c h =
    let parts = and_parts (among (own q J) c) (not (among (failed J) c)) (sym (among_without (own q J) (failed J) c) ∙ h) in
    (parts.0, not-true (among (failed J) c) parts.1)

pub own_alive : (p : ℕ) (J : List Entry) (c : Contact) → among (own p J) c ≡ true → among (failed J) c ≡ false → among (alive p J) c ≡ true
unfolding alive
own_alive p J c h out = among_without (own p J) (failed J) c ∙ and_from (among (own p J) c) (not (among (failed J) c)) h (ap not out)

pub alive_on_path : (q : ℕ) (J : List Entry) (c : Contact) → among (alive q J) c ≡ true → (among (path q J) c ≡ true) × (among (failed J) c ≡ false)
alive_on_path q J c h = (let says = alive_says q J c h in ((own_on_path q J c says.0).0, says.1))

pub alive_not_theirs : (q : ℕ) (J : List Entry) (c : Contact) → among (alive q J) c ≡ true → among (theirs q J) c ≡ false
alive_not_theirs q J c h = (own_on_path q J c (alive_says q J c h).0).1

-- who may be asked is on the path
pub may_ask_on_path : (s : Setting) (q : ℕ) (J : List Entry) (c : Contact) → may_ask s q J ≡ Some c → among (path q J) c ≡ true
may_ask_on_path s q J c f = (alive_on_path q J c (closest_within s.target s.k (alive q J) c (may_ask_says s q J c f).near)).0

-- what is open was asked, and is neither heard nor lost
pub open_says : (q : ℕ) (J : List Entry) (c : Contact) → among (open_on q J) c ≡ true → (among (asked_on q J) c ≡ true) × (among (answered J) c ≡ false) × (among (failed J) c ≡ false)
unfolding open_on
open_says q J c h =
    let parts = and_parts (among (asked_on q J) c) (not (among (answered J ++ failed J) c)) (sym (among_without (asked_on q J) (answered J ++ failed J) c) ∙ h) in
    let none = or_parts (among (answered J) c) (among (failed J) c) (sym (among_more (answered J) (failed J) c) ∙ not-true (among (answered J ++ failed J) c) parts.1) in
    (parts.0, none.0, none.1)

pub open_any_says : (J : List Entry) (c : Contact) → among (open_any J) c ≡ true → (among (asked J) c ≡ true) × (among (answered J) c ≡ false) × (among (failed J) c ≡ false)
unfolding open_any
open_any_says J c h =
    let parts = and_parts (among (asked J) c) (not (among (answered J ++ failed J) c)) (sym (among_without (asked J) (answered J ++ failed J) c) ∙ h) in
    let none = or_parts (among (answered J) c) (among (failed J) c) (sym (among_more (answered J) (failed J) c) ∙ not-true (among (answered J ++ failed J) c) parts.1) in
    (parts.0, none.0, none.1)

stays : (xs ys : List Contact) → ys ≡ [] → IsDistinct same xs → IsDistinct same (xs ++ ys)
stays xs ys e h = subst (IsDistinct same) (sym (append-nil xs) ∙ ap (λ l. xs ++ l) (sym e)) h

-- where a name is a claim, what is free was not taken
pub free_named : (s : Setting) (J : List Entry) (p : ℕ) (c : Contact) → s.claim ≡ Named → IsFree s.claim J p c → among (took J) c ≡ false
free_named s J p c n f = subst (λ r. IsFree r J p c) n f

took_step : (s : Setting) (J : List Entry) (e : Entry) → s.claim ≡ Named → IsDistinct same (took J) → Fits s J e → IsDistinct same (took J ++ took_of e)
took_step s J (Seed q c) n h f = distinct_sorted s.target (took J ++ c ∷ []) f.in_order
took_step s J (Taken q c) n h f = IsDistinct-push (eq_by_cmp_equiv contact_total) (took J) c h (free_named s J q c n f.1)
took_step s J other n h f = stays _ _ refl h

-- where a name is a claim, no contact is taken twice
pub took_distinct : (s : Setting) (J : List Entry) → s.claim ≡ Named → Legal s J → IsDistinct same (took J)
unfolding took IsDistinct
took_distinct s J n l = along (λ J. IsDistinct same (took J)) s tt (λ J e l d f. subst (IsDistinct same) (sym (took_more J e)) (took_step s J e n d f)) J l

asked_step : (s : Setting) (J : List Entry) (e : Entry) → IsDistinct same (asked J) → Fits s J e → IsDistinct same (asked J ++ ask_of e)
asked_step s J (Ask q c) h f = IsDistinct-push (eq_by_cmp_equiv contact_total) (asked J) c h (may_ask_says s q J c f).new
asked_step s J other h f = stays _ _ refl h

-- none is asked twice
pub asked_distinct : (s : Setting) (J : List Entry) → Legal s J → IsDistinct same (asked J)
unfolding asked IsDistinct
asked_distinct s = along (λ J. IsDistinct same (asked J)) s tt (λ J e l d f. subst (IsDistinct same) (sym (asked_more J e)) (asked_step s J e d f))

-- what is among the one path is among all
pub on_path_in : (p q : ℕ) (xs : List Contact) (c : Contact) → among (on_path p q xs) c ≡ true → (q ≡ p) × (among xs c ≡ true)
on_path_in p q xs c h = by_test (eqb q p) refl h
  where
    by_test : (b : Bool) → eqb q p ≡ b → among (cond b xs []) c ≡ true → (q ≡ p) × (among xs c ≡ true)
    by_test true t e = (eqb-true q p t, e)
    by_test false t e = absurd cc

in_append : (xs ys : List Contact) (c : Contact) → among (xs ++ ys) c ≡ true → (among xs c ≡ true → ⊥) → among ys c ≡ true
in_append xs ys c h out = pick (among xs c) (among ys c) refl (sym (among_more xs ys c) ∙ h)
  where
    pick : (a b : Bool) → among xs c ≡ a → (a || b) ≡ true → b ≡ true
    pick true b e t = absurd (out e)
    pick false b e t = t

pub among_left : (xs ys : List Contact) (c : Contact) → among xs c ≡ true → among (xs ++ ys) c ≡ true
among_left xs ys c h = among_more xs ys c ∙ or_left (among xs c) (among ys c) h

pub among_right : (xs ys : List Contact) (c : Contact) → among ys c ≡ true → among (xs ++ ys) c ≡ true
among_right xs ys c h = among_more xs ys c ∙ or_right (among xs c) (among ys c) h

-- a fact of each contact of a list holds of each of a longer one
pub each_more : (P : Contact → Type 0) (xs ys zs : List Contact) → zs ≡ xs ++ ys → ((c : Contact) → among xs c ≡ true → P c) → ((c : Contact) → among ys c ≡ true → P c) → (c : Contact) → among zs c ≡ true → P c
each_more P xs ys zs e f g c h = pick (among xs c) refl
  where
    pick : (a : Bool) → among xs c ≡ a → P c
    pick true t = f c t
    pick false t = g c (in_append xs ys c (ap (λ l. among l c) (sym e) ∙ h) (λ u. absurd cc))

asker_step : (s : Setting) (J : List Entry) (e : Entry) → Fits s J e → (p : ℕ) (c : Contact) → among (ask_on p e) c ≡ true → among (path p J) c ≡ true
asker_step s J (Ask q d) f p c h =
    let i = on_path_in p q (d ∷ []) c h in
    let is : c ≡ d = among_one c d i.1 in
    let here : among (path q J) d ≡ true = may_ask_on_path s q J d f in
    subst (λ n. among (path n J) c ≡ true) i.0 (subst (λ x. among (path q J) x ≡ true) (sym is) here)
asker_step s J other f p c h = absurd cc

-- each asked contact is on the path that asked it
pub asked_on_path : (s : Setting) (J : List Entry) → Legal s J → (p : ℕ) (c : Contact) → among (asked_on p J) c ≡ true → among (path p J) c ≡ true
unfolding asked_on
asked_on_path s =
    along (λ J. (p : ℕ) (c : Contact) → among (asked_on p J) c ≡ true → among (path p J) c ≡ true) s (λ p c h. absurd cc)
    (λ J e l d f p. each_more (λ c. among (path p (J ++ e ∷ [])) c ≡ true) (asked_on p J) (ask_on p e) (asked_on p (J ++ e ∷ [])) (asked_on_more p J e)
    (λ c h. ap (λ l. among l c) (path_more p J e) ∙ among_left (path p J) (path_of p e) c (d p c h))
    (λ c h. ap (λ l. among l c) (path_more p J e) ∙ among_left (path p J) (path_of p e) c (asker_step s J e f p c h)))

-- what one path has or asked is among what all have or asked
pub path_took : (p : ℕ) (J : List Entry) (c : Contact) → among (path p J) c ≡ true → among (took J) c ≡ true
unfolding path took
path_took p [] c h = absurd cc
path_took p (e ∷ J) c h =
    elim (or_cases (among (path_of p e) c) (among (path p J) c) (sym (among_more (path_of p e) (path p J) c) ∙ h)) [
      | inl a ↦ among_left (took_of e) (took J) c (one e a)
      | inr b ↦ among_right (took_of e) (took J) c (path_took p J c b)
    ]
  where
    one : (e : Entry) → among (path_of p e) c ≡ true → among (took_of e) c ≡ true
    one (Seed n d) a = (on_path_in p n (d ∷ []) c a).1
    one (Taken n d) a = (on_path_in p n (d ∷ []) c a).1
    one other a = absurd cc

pub asked_on_asked : (p : ℕ) (J : List Entry) (c : Contact) → among (asked_on p J) c ≡ true → among (asked J) c ≡ true
unfolding asked_on asked
asked_on_asked p [] c h = absurd cc
asked_on_asked p (e ∷ J) c h =
    elim (or_cases (among (ask_on p e) c) (among (asked_on p J) c) (sym (among_more (ask_on p e) (asked_on p J) c) ∙ h)) [
      | inl a ↦ among_left (ask_of e) (asked J) c (one e a)
      | inr b ↦ among_right (ask_of e) (asked J) c (asked_on_asked p J c b)
    ]
  where
    one : (e : Entry) → among (ask_on p e) c ≡ true → among (ask_of e) c ≡ true
    one (Ask n d) a = (on_path_in p n (d ∷ []) c a).1
    one other a = absurd cc

-- the last of a list that has each once is not in front
apart_last : (xs : List Contact) (c : Contact) → IsDistinct same (xs ++ c ∷ []) → among xs c ≡ false
unfolding IsDistinct
apart_last [] c d = refl
apart_last (x ∷ xs) c d = ap (λ b. b || among xs c) (same_back c x ∙ all_last xs d.0) ∙ apart_last xs c d.1
  where
    all_last : (xs : List Contact) → AllByRecursion (λ y. same x y ≡ false) (xs ++ c ∷ []) → same x c ≡ false
    all_last [] a = a.0
    all_last (y ∷ xs) a = all_last xs a.1

in_asked : (s : Setting) (q : ℕ) (J : List Entry) (c : Contact) → among (open_on q J) c ≡ true → among (asked J) c ≡ true
in_asked s q J c h = asked_on_asked q J c (open_says q J c h).0

ended_step : (s : Setting) (J : List Entry) (e : Entry) → Fits s J e → (c : Contact) → (among (answer_of e) c || among (fail_of e) c) ≡ true → among (asked J) c ≡ true
ended_step s J (Heard q d reports) f c h = subst (λ x. among (asked J) x ≡ true) (sym (among_one c d (drop_false (among (d ∷ []) c) h))) (in_asked s q J d f.0)
  where
    drop_false : (b : Bool) → (b || false) ≡ true → b ≡ true
    drop_false true e = refl
    drop_false false e = e
ended_step s J (Lost q d cause) f c h = subst (λ x. among (asked J) x ≡ true) (sym (among_one c d h)) (in_asked s q J d f)
ended_step s J other f c h = absurd cc

-- who is heard or lost was asked
pub ended_asked : (s : Setting) (J : List Entry) → Legal s J → (c : Contact) → among (answered J ++ failed J) c ≡ true → among (asked J) c ≡ true
unfolding answered failed
ended_asked s =
    along (λ J. (c : Contact) → among (answered J ++ failed J) c ≡ true → among (asked J) c ≡ true) s (λ c h. absurd cc)
    (λ J e l d f c h.
    let wide : (among (answered J ++ failed J) c || (among (answer_of e) c || among (fail_of e) c)) ≡ true =
    regroup (among (answered J) c) (among (answer_of e) c) (among (failed J) c) (among (fail_of e) c) (among (answered J ++ failed J) c) (among_more (answered J) (failed J) c)
    (sym (ap (λ l. among l c) (ap (λ l. l ++ failed (J ++ e ∷ [])) (answered_more J e) ∙ ap (λ l. (answered J ++ answer_of e) ++ l) (failed_more J e)) ∙ among_more (answered J ++ answer_of e) (failed J ++ fail_of e) c
    ∙ ap (λ b. b || among (failed J ++ fail_of e) c) (among_more (answered J) (answer_of e) c) ∙ ap (λ b. (among (answered J) c || among (answer_of e) c) || b) (among_more (failed J) (fail_of e) c)) ∙ h) in
    ap (λ l. among l c) (asked_more J e) ∙ among_left (asked J) (ask_of e) c
    (elim (or_cases (among (answered J ++ failed J) c) (among (answer_of e) c || among (fail_of e) c) wide) [ inl t ↦ d c t | inr t ↦ ended_step s J e f c t ]))
  where
    regroup : (a b x y ab : Bool) → ab ≡ (a || x) → ((a || b) || (x || y)) ≡ true → (ab || (b || y)) ≡ true
    regroup true b x y ab e h = ap (λ t. t || (b || y)) e
    regroup false true x y ab e h = any_true ab
      where
        any_true : (t : Bool) → (t || true) ≡ true
        any_true true = refl
        any_true false = refl
    regroup false false true y ab e h = ap (λ t. t || y) e
    regroup false false false true ab e h = any_true ab
      where
        any_true : (t : Bool) → (t || true) ≡ true
        any_true true = refl
        any_true false = refl
    regroup false false false false ab e h = absurd cc

pub answered_asked : (s : Setting) (J : List Entry) → Legal s J → (c : Contact) → among (answered J) c ≡ true → among (asked J) c ≡ true
answered_asked s J l c h = ended_asked s J l c (among_left (answered J) (failed J) c h)

path_entry : (s : Setting) (J : List Entry) (e : Entry) (p q : ℕ) (c : Contact) → among (path_of p e) c ≡ true → among (path_of q e) c ≡ true → p ≡ q
path_entry s J (Seed n d) p q c h k = sym (on_path_in p n (d ∷ []) c h).0 ∙ (on_path_in q n (d ∷ []) c k).0
path_entry s J (Taken n d) p q c h k = sym (on_path_in p n (d ∷ []) c h).0 ∙ (on_path_in q n (d ∷ []) c k).0
path_entry s J other p q c h k = absurd cc

-- a seed was not taken before
pub seed_new : (s : Setting) (J : List Entry) (q : ℕ) (c : Contact) → Fits s J (Seed q c) → among (took J) c ≡ false
seed_new s J q c f = apart_last (took J) c (distinct_sorted s.target (took J ++ c ∷ []) f.in_order)

-- where a name is a claim, none that is taken was taken before
pub path_new : (s : Setting) (J : List Entry) (e : Entry) → s.claim ≡ Named → Fits s J e → (p : ℕ) (c : Contact) → among (path_of p e) c ≡ true → among (took J) c ≡ false
path_new s J (Seed n d) r f p c h = subst (λ x. among (took J) x ≡ false) (sym (among_one c d (on_path_in p n (d ∷ []) c h).1)) (seed_new s J n d f)
path_new s J (Taken n d) r f p c h = subst (λ x. among (took J) x ≡ false) (sym (among_one c d (on_path_in p n (d ∷ []) c h).1)) (free_named s J n d r f.1)
path_new s J other r f p c h = absurd cc

-- where a name is a claim, no two paths have one contact
pub one_path : (s : Setting) (J : List Entry) → s.claim ≡ Named → Legal s J → (p q : ℕ) (c : Contact) → among (path p J) c ≡ true → among (path q J) c ≡ true → p ≡ q
unfolding path
one_path s J r l =
    along (λ J. (p q : ℕ) (c : Contact) → among (path p J) c ≡ true → among (path q J) c ≡ true → p ≡ q) s (λ p q c h k. absurd cc)
    (λ J e l d f p q c h k.
    let new = path_new s J e r f in
    let either = λ (n : ℕ) (t : among (path n (J ++ e ∷ [])) c ≡ true). or_cases (among (path n J) c) (among (path_of n e) c) (sym (among_more (path n J) (path_of n e) c) ∙ ap (λ l. among l c) (sym (path_more n J e)) ∙ t) in
    elim (either p h) [
      | inl a ↦ elim (either q k) [ inl b ↦ d p q c a b | inr b ↦ (let u = path_took p J c a in let v = new q c b in absurd cc) ]
      | inr a ↦ elim (either q k) [ inl b ↦ (let u = path_took q J c b in let v = new p c a in absurd cc) | inr b ↦ path_entry s J e p q c a b ]
    ])
    J l

-- ---- who asked a contact

ask_entry : (s : Setting) (J : List Entry) (e : Entry) (p q : ℕ) (c : Contact) → among (ask_on p e) c ≡ true → among (ask_on q e) c ≡ true → p ≡ q
ask_entry s J (Ask n d) p q c h k = sym (on_path_in p n (d ∷ []) c h).0 ∙ (on_path_in q n (d ∷ []) c k).0
ask_entry s J other p q c h k = absurd cc

ask_new : (s : Setting) (J : List Entry) (e : Entry) → Fits s J e → (p : ℕ) (c : Contact) → among (ask_on p e) c ≡ true → among (asked J) c ≡ false
ask_new s J (Ask n d) f p c h = subst (λ x. among (asked J) x ≡ false) (sym (among_one c d (on_path_in p n (d ∷ []) c h).1)) (may_ask_says s n J d f).new
ask_new s J other f p c h = absurd cc

-- a contact is asked by one path
pub one_asker : (s : Setting) (J : List Entry) → Legal s J → (p q : ℕ) (c : Contact) → among (asked_on p J) c ≡ true → among (asked_on q J) c ≡ true → p ≡ q
unfolding asked_on
one_asker s =
    along (λ J. (p q : ℕ) (c : Contact) → among (asked_on p J) c ≡ true → among (asked_on q J) c ≡ true → p ≡ q) s (λ p q c h k. absurd cc)
    (λ J e l d f p q c h k.
    let new = ask_new s J e f in
    let either = λ (n : ℕ) (t : among (asked_on n (J ++ e ∷ [])) c ≡ true). or_cases (among (asked_on n J) c) (among (ask_on n e) c) (sym (among_more (asked_on n J) (ask_on n e) c) ∙ ap (λ l. among l c) (sym (asked_on_more n J e)) ∙ t) in
    elim (either p h) [
      | inl a ↦ elim (either q k) [ inl b ↦ d p q c a b | inr b ↦ (let u = asked_on_asked p J c a in let v = new q c b in absurd cc) ]
      | inr a ↦ elim (either q k) [ inl b ↦ (let u = asked_on_asked q J c b in let v = new p c a in absurd cc) | inr b ↦ ask_entry s J e p q c a b ]
    ])

-- what was asked was asked by the path or by another
pub asked_split : (p : ℕ) (J : List Entry) (c : Contact) → among (asked J) c ≡ (among (asked_on p J) c || among (theirs p J) c)
unfolding asked asked_on theirs
asked_split p [] c = refl
asked_split p (Ask q d ∷ J) c = by (eqb q p) (asked_split p J c)
  where
    by : (b : Bool) → among (asked J) c ≡ (among (asked_on p J) c || among (theirs p J) c) → (same c d || among (asked J) c) ≡ (among (cond b (d ∷ []) [] ++ asked_on p J) c || among (cond b [] (d ∷ []) ++ theirs p J) c)
    by true e = ap (λ b. same c d || b) e ∙ front (same c d) (among (asked_on p J) c) (among (theirs p J) c)
      where
        front : (a b t : Bool) → (a || (b || t)) ≡ ((a || b) || t)
        front true b t = refl
        front false b t = refl
    by false e = ap (λ b. same c d || b) e ∙ back (same c d) (among (asked_on p J) c) (among (theirs p J) c)
      where
        back : (a b t : Bool) → (a || (b || t)) ≡ (b || (a || t))
        back true true t = refl
        back true false t = refl
        back false b t = refl
asked_split p (e ∷ J) c = asked_split p J c

pub theirs_asked : (p : ℕ) (J : List Entry) (c : Contact) → among (theirs p J) c ≡ true → among (asked J) c ≡ true
theirs_asked p J c h = asked_split p J c ∙ or_right (among (asked_on p J) c) (among (theirs p J) c) h

-- what is on another path
pub elsewhere_in : (p q : ℕ) (xs : List Contact) (c : Contact) → among (elsewhere p q xs) c ≡ true → (eqb q p ≡ false) × (among xs c ≡ true)
elsewhere_in p q xs c h = by_test (eqb q p) refl h
  where
    by_test : (b : Bool) → eqb q p ≡ b → among (cond b [] xs) c ≡ true → (eqb q p ≡ false) × (among xs c ≡ true)
    by_test true t e = absurd cc
    by_test false t e = (t, e)

-- the path that asked what another path asked
pub theirs_by : (p : ℕ) (J : List Entry) (c : Contact) → among (theirs p J) c ≡ true → (q : ℕ) × (eqb q p ≡ false) × (among (asked_on q J) c ≡ true)
unfolding theirs asked_on
theirs_by p [] c h = absurd cc
theirs_by p (Ask n d ∷ J) c h =
    elim (or_cases (among (elsewhere p n (d ∷ [])) c) (among (theirs p J) c) (sym (among_more (elsewhere p n (d ∷ [])) (theirs p J) c) ∙ h)) [
      | inl a ↦
          let off = elsewhere_in p n (d ∷ []) c a in
          (n, off.0, among_left (on_path n n (d ∷ [])) (asked_on n J) c (ap (λ b. among (cond b (d ∷ []) []) c) (eq-eqb n n refl) ∙ off.1))
      | inr b ↦
          let r = theirs_by p J c b in
          (r.0, r.1, among_right (on_path r.0 n (d ∷ [])) (asked_on r.0 J) c r.2)
    ]
theirs_by p (e ∷ J) c h = theirs_by p J c h

pub in_theirs : (p q : ℕ) (J : List Entry) (c : Contact) → eqb q p ≡ false → among (asked_on q J) c ≡ true → among (theirs p J) c ≡ true
unfolding theirs asked_on
in_theirs p q [] c ne h = absurd cc
in_theirs p q (Ask n d ∷ J) c ne h =
    elim (or_cases (among (on_path q n (d ∷ [])) c) (among (asked_on q J) c) (sym (among_more (on_path q n (d ∷ [])) (asked_on q J) c) ∙ h)) [
      | inl a ↦
          let on = on_path_in q n (d ∷ []) c a in
          among_left (elsewhere p n (d ∷ [])) (theirs p J) c (ap (λ b. among (cond b [] (d ∷ [])) c) (ap (λ m. eqb m p) on.0 ∙ ne) ∙ on.1)
      | inr b ↦ among_right (elsewhere p n (d ∷ [])) (theirs p J) c (in_theirs p q J c ne b)
    ]
in_theirs p q (e ∷ J) c ne h = in_theirs p q J c ne h

-- some path asked what was asked
pub asked_by : (J : List Entry) (c : Contact) → among (asked J) c ≡ true → (q : ℕ) × (among (asked_on q J) c ≡ true)
asked_by J c h =
    elim (or_cases (among (asked_on 0 J) c) (among (theirs 0 J) c) (sym (asked_split 0 J c) ∙ h)) [
      | inl a ↦ (0, a)
      | inr b ↦ (let by = theirs_by 0 J c b in (by.0, by.2))
    ]

pub asked_took : (s : Setting) (J : List Entry) (c : Contact) → Legal s J → among (asked J) c ≡ true → among (took J) c ≡ true
asked_took s J c l h = (let by = asked_by J c h in path_took by.0 J c (asked_on_path s J l by.0 c by.1))

-- what a path asked no other path did
pub asked_not_theirs : (s : Setting) (J : List Entry) → Legal s J → (p : ℕ) (c : Contact) → among (asked_on p J) c ≡ true → among (theirs p J) c ≡ false
asked_not_theirs s J l p c h = no_true (among (theirs p J) c) (λ t. let by = theirs_by p J c t in eqb-false by.0 p by.1 (one_asker s J l by.0 p c by.2 h))

-- where a name is a claim, all that a path has is its own
pub own_is_path : (s : Setting) (J : List Entry) (p : ℕ) → s.claim ≡ Named → Legal s J → own p J ≡ path p J
unfolding own
own_is_path s J p r l =
    without_apart (path p J) (theirs p J)
    (λ c h. no_true (among (theirs p J) c) (λ t. let by = theirs_by p J c t in eqb-false by.0 p by.1 (one_path s J r l by.0 p c (asked_on_path s J l by.0 c by.2) h)))

free_path : (rule : ClaimRule) (J : List Entry) (p : ℕ) (c : Contact) → IsFree rule J p c → among (path p J) c ≡ false
free_path Named J p c f = no_true (among (path p J) c) (λ h. let t = path_took p J c h in absurd cc)
free_path Asked J p c f = f.0

free_asked : (s : Setting) (rule : ClaimRule) (J : List Entry) (p : ℕ) (c : Contact) → Legal s J → IsFree rule J p c → among (asked J) c ≡ false
free_asked s Named J p c l f = no_true (among (asked J) c) (λ h. let t = asked_took s J c l h in absurd cc)
free_asked s Asked J p c l f = f.1

-- a contact that no path holds against path p isn't on it, and nobody asked it
pub fresh_free : (s : Setting) (J : List Entry) (p : ℕ) (c : Contact) → Legal s J → IsFree s.claim J p c → (among (path p J) c ≡ false) × (among (asked J) c ≡ false)
fresh_free s J p c l f = (free_path s.claim J p c f, free_asked s s.claim J p c l f)
