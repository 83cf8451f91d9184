-- What an ask of one path leaves of the others.
use Rattle.std.proofs.Common.{◌≡◌, ℕ, List, [], ◌∷◌, ◌++◌, length, Some, None, Bool, true, false, not, ◌&&◌, ◌||◌, cond, refl, sym, ap, subst, ◌∙◌}
use Rattle.std.specs.Prelude.{find, nat_lt}
use Rattle.std.proofs.lemmas.Bool.{or_left, eq-eqb}
use Rattle.std.proofs.lemmas.List.{append-nil}
use Rattle.kad_base.specs.declared.types.Contact.{Contact}
use Rattle.kad_base.specs.Contacts.{same, among, without}
use Rattle.kad_base.proofs.Contacts.{same_exact, among_more}
use Rattle.kad_distance.specs.KClosest.{k_closest}
use Rattle.claim_book.specs.declared.types.Setting.{Setting}
use Rattle.claim_book.specs.declared.types.Cause.{Cause}
use Rattle.claim_book.specs.declared.types.Entry.{Entry}
use Rattle.claim_book.specs.declared.types.Entry.TheVariants.{Ask, Lost}
use Rattle.claim_book.specs.Journal.{on_path, path, own, theirs, asked, asked_on, answered, failed, open_any, open_on, alive, unsettled, first_unasked, may_ask}
use Rattle.claim_book.specs.Legal.{Legal}
use Rattle.claim_book.proofs.More.{path_more, theirs_more, asked_more, asked_on_more, answered_more, failed_more}
use Rattle.claim_book.proofs.Claims.{may_ask_says, open_says, ended_asked, asked_on_asked, alive_says, own_on_path, one_asker, asked_split, among_right}
use Rattle.claim_book.proofs.Closest.{closest_stays}
use Rattle.claim_book.proofs.Kept.{off_this, open_on_any}
use Rattle.claim_book.proofs.Among.{none_among, among_none, among_itself, among_without, without_twice, without_swap, without_absent}
use Rattle.claim_book.proofs.Unsettled.{unsettled_kept}
use Rattle.lookup_core.proofs.Opens.{no_true}

-- an absent contact makes no difference
absent_step : (out more : List Contact) (c x : Contact) (cs : List Contact) → among more x ≡ (among out x || same x c) → (same c x || among cs c) ≡ false → (among cs c ≡ false → without cs more ≡ without cs out) → without (x ∷ cs) more ≡ without (x ∷ cs) out
absent_step out more c x cs f h rest =
    let parts = neither (same c x) (among cs c) h in
    let apart : same x c ≡ false = no_true (same x c) (λ y. (let e = same_exact x c y in let back : same c x ≡ true = subst (λ z. same c z ≡ true) (sym e) (ap (λ z. same z c) (sym e) ∙ y) in let no = parts.0 in absurd cc)) in
    ap (λ b. cond (not b) (x ∷ without cs more) (without cs more)) (f ∙ ap (λ b. among out x || b) apart ∙ or_no (among out x)) ∙ ap (λ l. cond (not (among out x)) (x ∷ l) l) (rest parts.1)
  where
    neither : (a b : Bool) → (a || b) ≡ false → (a ≡ false) × (b ≡ false)
    neither true b e = absurd cc
    neither false b e = (refl, e)

    or_no : (b : Bool) → (b || false) ≡ b
    or_no true = refl
    or_no false = refl

pub without_none : (out more : List Contact) (c : Contact) → ((x : Contact) → among more x ≡ (among out x || same x c)) → (cs : List Contact) → among cs c ≡ false → without cs more ≡ without cs out
without_none out more c f [] h = refl
without_none out more c f (x ∷ cs) h = absent_step out more c x cs (f x) h (without_none out more c f cs)

-- where all were asked, they still were
all_asked : (A B cs : List Contact) → ((x : Contact) → among A x ≡ true → among B x ≡ true) → find (λ x. not (among A x)) cs ≡ None → find (λ x. not (among B x)) cs ≡ None
all_asked A B [] f h = refl
all_asked A B (x ∷ cs) f h = pick (among A x) refl h (all_asked A B cs f)
  where
    pick : (a : Bool) → among A x ≡ a → cond (not a) (Some x) (find (λ y. not (among A y)) cs) ≡ None → (find (λ y. not (among A y)) cs ≡ None → find (λ y. not (among B y)) cs ≡ None) → find (λ y. not (among B y)) (x ∷ cs) ≡ None
    pick true e none rest = ap (λ b. cond (not b) (Some x) (find (λ y. not (among B y)) cs)) (f x e) ∙ rest none
    pick false e none rest = absurd cc

-- where all of a list were asked, whoever wasn't is not among it
all_found : (A cs : List Contact) (c : Contact) → find (λ x. not (among A x)) cs ≡ None → among A c ≡ false → among cs c ≡ false
all_found A [] c none new = refl
all_found A (x ∷ cs) c none new = pick (among A x) refl none (λ rest. all_found A cs c rest new)
  where
    pick : (a : Bool) → among A x ≡ a → cond (not a) (Some x) (find (λ y. not (among A y)) cs) ≡ None → (find (λ y. not (among A y)) cs ≡ None → among cs c ≡ false) → (same c x || among cs c) ≡ false
    pick true e rest more =
        let apart : same c x ≡ false = no_true (same c x) (λ y. (let is = same_exact c x y in let has = ap (among A) is ∙ e in absurd cc)) in
        ap (λ b. b || among cs c) apart ∙ more rest
    pick false e rest more = absurd cc

-- a path that may ask nothing still may not
pub still_none : (s : Setting) (q : ℕ) (J K : List Entry) → open_on q K ≡ open_on q J → (first_unasked s q J ≡ None → k_closest s.target s.k (alive q K) ≡ k_closest s.target s.k (alive q J)) → ((x : Contact) → among (asked J) x ≡ true → among (asked K) x ≡ true) → may_ask s q J ≡ None → may_ask s q K ≡ None
unfolding may_ask
still_none s q J K opens near asks none =
    ap (λ l. cond (nat_lt (length l) s.alpha) (first_unasked s q K) None) opens
    ∙ pick (nat_lt (length (open_on q J)) s.alpha) none
  where
    pick : (b : Bool) → cond b (first_unasked s q J) None ≡ None → cond b (first_unasked s q K) None ≡ None
    pick true h = ap (λ l. find (λ c. not (among (asked K) c)) l) (near h) ∙ all_asked (asked J) (asked K) (k_closest s.target s.k (alive q J)) asks h
    pick false h = refl

off : (p q : ℕ) (c : Contact) → (q ≡ p → ⊥) → on_path q p (c ∷ []) ≡ []
off p q c ne = ap (λ b. cond b (c ∷ []) []) (off_this p q ne)

more_asked : (J : List Entry) (e : Entry) (x : Contact) → among (asked J) x ≡ true → among (asked (J ++ e ∷ [])) x ≡ true
more_asked J e x h = ap (λ l. among l x) (asked_more J e) ∙ among_more (asked J) _ x ∙ or_left (among (asked J) x) _ h

-- another's ask takes the contact from those of the path that are alive
alive_after_ask : (p q : ℕ) (J : List Entry) (c : Contact) → (q ≡ p → ⊥) → alive q (J ++ Ask p c ∷ []) ≡ without (alive q J) (c ∷ [])
unfolding alive own
alive_after_ask p q J c ne =
    let e : Entry = Ask p c in
    let has = path_more q J e ∙ append-nil (path q J) in
    let gone : theirs q (J ++ e ∷ []) ≡ theirs q J ++ c ∷ [] = theirs_more q J e ∙ ap (λ b. theirs q J ++ cond b [] (c ∷ [])) (off_this p q ne) in
    let lost = failed_more J e ∙ append-nil (failed J) in
    ap (λ l. without (without l (theirs q (J ++ e ∷ []))) (failed (J ++ e ∷ []))) has
    ∙ ap (λ l. without (without (path q J) l) (failed (J ++ e ∷ []))) gone
    ∙ ap (without (without (path q J) (theirs q J ++ c ∷ []))) lost
    ∙ ap (λ l. without l (failed J)) (without_twice (path q J) (theirs q J) (c ∷ []))
    ∙ without_swap (without (path q J) (theirs q J)) (c ∷ []) (failed J)

-- whom path p asked, another path has not among its own
own_without : (s : Setting) (p q : ℕ) (J : List Entry) (c : Contact) → Legal s J → among (asked_on p J) c ≡ true → (q ≡ p → ⊥) → among (alive q J) c ≡ false
own_without s p q J c l by ne = no_true (among (alive q J) c) (λ y.
    let free = (own_on_path q J c (alive_says q J c y).0).1 in
    let not_here : among (asked_on q J) c ≡ false = no_true (among (asked_on q J) c) (λ z. ne (one_asker s J l q p c z by)) in
    let some = asked_on_asked p J c by in
    let split = asked_split q J c in
    absurd (none_of (among (asked J) c) (among (asked_on q J) c) (among (theirs q J) c) split some not_here free))
  where
    none_of : (a b d : Bool) → a ≡ (b || d) → a ≡ true → b ≡ false → d ≡ false → ⊥
    none_of a true d e f g h = absurd cc
    none_of a false true e f g h = absurd cc
    none_of true false false e f g h = absurd cc
    none_of false false false e f g h = absurd cc

-- another's loss leaves those of the path that are alive
alive_after_lost : (s : Setting) (p q : ℕ) (J : List Entry) (c : Contact) (cause : Cause) → Legal s J → among (asked_on p J) c ≡ true → (q ≡ p → ⊥) → alive q (J ++ Lost p c cause ∷ []) ≡ alive q J
unfolding alive own
alive_after_lost s p q J c cause l by ne =
    let e : Entry = Lost p c cause in
    let has = path_more q J e ∙ append-nil (path q J) in
    let gone = theirs_more q J e ∙ append-nil (theirs q J) in
    ap (λ l. without (without l (theirs q (J ++ e ∷ []))) (failed (J ++ e ∷ []))) has
    ∙ ap (λ l. without (without (path q J) l) (failed (J ++ e ∷ []))) gone
    ∙ ap (without (without (path q J) (theirs q J))) (failed_more J e)
    ∙ without_twice (without (path q J) (theirs q J)) (failed J) (c ∷ [])
    ∙ without_absent (without (without (path q J) (theirs q J)) (failed J)) c (own_without s p q J c l by ne)

-- whom a path asks, it has a query open to
pub asked_opens : (s : Setting) (p : ℕ) (J : List Entry) (c : Contact) → Legal s J → may_ask s p J ≡ Some c → among (open_on p (J ++ Ask p c ∷ [])) c ≡ true
unfolding open_on
asked_opens s p J c l may =
    let e : Entry = Ask p c in
    let new = (may_ask_says s p J c may).new in
    let fresh : among (answered J ++ failed J) c ≡ false = no_true (among (answered J ++ failed J) c) (λ y. (let was = ended_asked s J l c y in absurd cc)) in
    let ends : answered (J ++ e ∷ []) ++ failed (J ++ e ∷ []) ≡ answered J ++ failed J = ap (λ l. l ++ failed (J ++ e ∷ [])) (answered_more J e ∙ append-nil (answered J)) ∙ ap (λ l. answered J ++ l) (failed_more J e ∙ append-nil (failed J)) in
    let asks : asked_on p (J ++ e ∷ []) ≡ asked_on p J ++ c ∷ [] = asked_on_more p J e ∙ ap (λ b. asked_on p J ++ cond b (c ∷ []) []) (eq-eqb p p refl) in
    among_without (asked_on p (J ++ e ∷ [])) (answered (J ++ e ∷ []) ++ failed (J ++ e ∷ [])) c
    ∙ ap (λ l. among l c && not (among (answered (J ++ e ∷ []) ++ failed (J ++ e ∷ [])) c)) asks
    ∙ ap (λ b. b && not (among (answered (J ++ e ∷ []) ++ failed (J ++ e ∷ [])) c)) (among_right (asked_on p J) (c ∷ []) c (among_itself c))
    ∙ ap (λ l. not (among l c)) ends
    ∙ ap not fresh

-- when another asks
pub none_after_ask : (s : Setting) (p q : ℕ) (J : List Entry) (c : Contact) → (q ≡ p → ⊥) → may_ask s p J ≡ Some c → may_ask s q J ≡ None → may_ask s q (J ++ Ask p c ∷ []) ≡ None
unfolding open_on
none_after_ask s p q J c ne may none =
    let e : Entry = Ask p c in
    let ends : answered (J ++ e ∷ []) ++ failed (J ++ e ∷ []) ≡ answered J ++ failed J = ap (λ l. l ++ failed (J ++ e ∷ [])) (answered_more J e ∙ append-nil (answered J)) ∙ ap (λ l. answered J ++ l) (failed_more J e ∙ append-nil (failed J)) in
    still_none s q J (J ++ e ∷ [])
    (ap (λ l. without l (answered (J ++ e ∷ []) ++ failed (J ++ e ∷ []))) (asked_on_more q J e ∙ ap (λ l. asked_on q J ++ l) (off p q c ne) ∙ append-nil (asked_on q J)) ∙ ap (λ l. without (asked_on q J) l) ends)
    (λ all. ap (k_closest s.target s.k) (alive_after_ask p q J c ne) ∙ closest_stays s.target s.k (alive q J) c (all_found (asked J) (k_closest s.target s.k (alive q J)) c all (may_ask_says s p J c may).new))
    (more_asked J e) none

-- when one of another's is lost
pub none_after_lost : (s : Setting) (p q : ℕ) (J : List Entry) (c : Contact) (cause : Cause) → Legal s J → among (open_on p J) c ≡ true → (q ≡ p → ⊥) → may_ask s q J ≡ None → may_ask s q (J ++ Lost p c cause ∷ []) ≡ None
unfolding open_on
none_after_lost s p q J c cause l opened ne none =
    let e : Entry = Lost p c cause in
    let by : among (asked_on p J) c ≡ true = (open_says p J c opened).0 in
    let not_asked : among (asked_on q J) c ≡ false = no_true (among (asked_on q J) c) (λ y. ne (one_asker s J l q p c y by)) in
    let fails : (x : Contact) → among (failed (J ++ e ∷ [])) x ≡ (among (failed J) x || same x c) = (λ x. ap (λ k. among k x) (failed_more J e) ∙ among_more (failed J) (c ∷ []) x ∙ ap (λ b. among (failed J) x || b) (or_no (same x c))) in
    let ends : (x : Contact) → among (answered (J ++ e ∷ []) ++ failed (J ++ e ∷ [])) x ≡ (among (answered J ++ failed J) x || same x c) =
    (λ x. among_more (answered (J ++ e ∷ [])) (failed (J ++ e ∷ [])) x ∙ ap (λ k. among k x || among (failed (J ++ e ∷ [])) x) (answered_more J e ∙ append-nil (answered J)) ∙ ap (λ b. among (answered J) x || b) (fails x) ∙ regroup (among (answered J) x) (among (failed J) x) (same x c) ∙ sym (ap (λ b. b || same x c) (among_more (answered J) (failed J) x))) in
    still_none s q J (J ++ e ∷ [])
    (ap (λ k. without k (answered (J ++ e ∷ []) ++ failed (J ++ e ∷ []))) (asked_on_more q J e ∙ append-nil (asked_on q J)) ∙ without_none (answered J ++ failed J) (answered (J ++ e ∷ []) ++ failed (J ++ e ∷ [])) c ends (asked_on q J) not_asked)
    (λ all. ap (k_closest s.target s.k) (alive_after_lost s p q J c cause l by ne))
    (more_asked J e) none
  where
    or_no : (b : Bool) → (b || false) ≡ b
    or_no true = refl
    or_no false = refl

    regroup : (a b d : Bool) → (a || (b || d)) ≡ ((a || b) || d)
    regroup true b d = refl
    regroup false b d = refl

-- neither leaves anything to settle
pub settled_after_ask : (s : Setting) (p q : ℕ) (J : List Entry) (c : Contact) → Legal s J → unsettled q (J ++ Ask p c ∷ []) ≡ unsettled q J
settled_after_ask s p q J c l = unsettled_kept s q J (Ask p c) l refl refl

pub settled_after_lost : (s : Setting) (p q : ℕ) (J : List Entry) (c : Contact) (cause : Cause) → Legal s J → unsettled q (J ++ Lost p c cause ∷ []) ≡ unsettled q J
settled_after_lost s p q J c cause l = unsettled_kept s q J (Lost p c cause) l refl refl

-- where no contact is open, none is on a path
pub none_on : (p : ℕ) (J : List Entry) → open_any J ≡ [] → open_on p J ≡ []
none_on p J none = none_among (open_on p J) (λ c. no_true (among (open_on p J) c) (λ h. (let on = open_on_any p J c h in let off = among_none (open_any J) none c in absurd cc)))
