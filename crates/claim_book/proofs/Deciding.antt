-- What the reading of a journal decides.
use Rattle.std.proofs.Common.{◌≡◌, ℕ, zero, suc, ◌+◌, ◌<◌, ◌≤◌, List, [], ◌∷◌, ◌++◌, length, take, get_or, Bool, true, false, not, ◌||◌, ◌&&◌, cond, Some, None, refl, sym, ap, subst, ◌∙◌, arith}
use Rattle.std.specs.Prelude.{find, slice_get}
use Rattle.std.proofs.lemmas.Option.{get_or_from_slice_get}
use Rattle.std.proofs.lemmas.Bool.{and_from, eq-eqb, or_left, or_right, le-ltb, lt-ltb, false_from_ne_true}
use Rattle.kad_base.specs.declared.types.Contact.{Contact}
use Rattle.kad_base.specs.Contacts.{same, among}
use Rattle.kad_base.proofs.Contacts.{among_more}
use Rattle.kad_distance.specs.KClosest.{k_closest}
use Rattle.claim_book.specs.declared.types.Setting.{Setting}
use Rattle.claim_book.specs.declared.types.Thing.{Thing}
use Rattle.claim_book.specs.declared.types.Entry.{Entry}
use Rattle.claim_book.specs.declared.types.Entry.TheVariants.{Seed, Ask, Taken}
use Rattle.claim_book.specs.Journal.{on_path, asked, asked_on, askers, holders, took, path, answered, failed, alive, open_any, open_on, unsettled, first_unsettled, may_ask}
use Rattle.claim_book.specs.Calls.{asker}
use Rattle.claim_book.proofs.Among.{among_without}
use Rattle.claim_book.proofs.Claims.{among_left, among_right, open_any_says}
use Rattle.claim_book.proofs.Ends.{asked_by_some, held_by_some}

-- a search goes on past one that fails, and stops at one that passes
pub find_here : {A : Type 0} (p : A → Bool) (cs : List A) (i : ℕ) (d : A) → i < length cs → find p (take i cs) ≡ None → p (get_or cs i d) ≡ true → find p cs ≡ Some (get_or cs i d)
find_here p [] i d lt e h = absurd (omega arith)
find_here p (x ∷ cs) zero d lt e h = ap (λ b. cond b (Some x) (find p cs)) h
find_here p (x ∷ cs) (suc i) d lt e h =
    elim (p x) as (λ b. cond b (Some x) (find p (take i cs)) ≡ None → cond b (Some x) (find p cs) ≡ Some (get_or cs i d)) [
      | true ↦ λ g. absurd cc
      | false ↦ λ g. find_here p cs i d (omega arith) g h
    ] e

pub find_on : {A : Type 0} (p : A → Bool) (cs : List A) (i : ℕ) (d : A) → i < length cs → find p (take i cs) ≡ None → p (get_or cs i d) ≡ false → find p (take (i + 1) cs) ≡ None
find_on p [] i d lt e h = absurd (omega arith)
find_on p (x ∷ cs) zero d lt e h = ap (λ b. cond b (Some x) (find p [])) h
find_on {A} p (x ∷ cs) (suc i) d lt e h =
    let next : suc i + 1 ≡ suc (i + 1) = omega arith in
    ap (λ n. find p (take n (x ∷ cs))) next
    ∙ elim (p x) as (λ b. cond b (Some x) (find p (take i cs)) ≡ None → cond b (Some x) (find p (take (i + 1) cs)) ≡ None) [
      | true ↦ λ g. absurd cc
      | false ↦ λ g. find_on p cs i d (omega arith) g h
    ] e

pub none_unsettled : (p : ℕ) (J : List Entry) → first_unsettled p J ≡ None → unsettled p J ≡ []
unfolding first_unsettled
none_unsettled p J f = cut (unsettled p J) f
  where
    cut : (l : List Thing) → slice_get l 0 ≡ None → l ≡ []
    cut [] e = refl
    cut (t ∷ l) e = absurd cc

pub no_first : (p : ℕ) (J : List Entry) → unsettled p J ≡ [] → first_unsettled p J ≡ None
unfolding first_unsettled
no_first p J e = ap (λ l. slice_get l 0) e

pub may_ask_full : (s : Setting) (p : ℕ) (J : List Entry) → s.alpha ≤ length (open_on p J) → may_ask s p J ≡ None
unfolding may_ask
may_ask_full s p J le = ap (λ b. cond b (find (λ c. not (among (asked J) c)) (k_closest s.target s.k (alive p J))) None) (le-ltb (length (open_on p J)) s.alpha le)

pub may_ask_near : (s : Setting) (p : ℕ) (J : List Entry) → length (open_on p J) < s.alpha → find (λ c. not (among (asked J) c)) (k_closest s.target s.k (alive p J)) ≡ may_ask s p J
unfolding may_ask
may_ask_near s p J lt = sym (ap (λ b. cond b (find (λ c. not (among (asked J) c)) (k_closest s.target s.k (alive p J))) None) (lt-ltb (length (open_on p J)) s.alpha lt))

-- asked, and neither heard nor lost
pub open_any_is : (J : List Entry) (c : Contact) → among (open_any J) c ≡ (among (asked J) c && not (among (answered J) c || among (failed J) c))
unfolding open_any
open_any_is J c = among_without (asked J) (answered J ++ failed J) c ∙ ap (λ b. among (asked J) c && not b) (among_more (answered J) (failed J) c)

asker_asked : (c : Contact) (J : List Entry) (p : ℕ) → slice_get (askers c J) 0 ≡ Some p → among (asked J) c ≡ true
unfolding askers asked
asker_asked c [] p h = absurd cc
asker_asked c (Ask n d ∷ J) p h =
    elim (same c d) as (λ b. same c d ≡ b → slice_get (cond b (n ∷ []) [] ++ askers c J) 0 ≡ Some p → (same c d || among (asked J) c) ≡ true) [
      | true ↦ λ e g. or_left (same c d) (among (asked J) c) e
      | false ↦ λ e g. or_right (same c d) (among (asked J) c) (asker_asked c J p g)
    ] refl h
asker_asked c (e ∷ J) p h = asker_asked c J p h

first : (n : ℕ) (d : Contact) (J : List Entry) (c : Contact) (q : ℕ) → Some q ≡ slice_get (cond (same c d) (n ∷ []) [] ++ holders c J) 0 → (Some q ≡ slice_get (holders c J) 0 → among (path q J) c ≡ true) → among (on_path q n (d ∷ []) ++ path q J) c ≡ true
first n d J c q e r =
    elim (same c d) as (λ b. same c d ≡ b → Some q ≡ slice_get (cond b (n ∷ []) [] ++ holders c J) 0 → among (on_path q n (d ∷ []) ++ path q J) c ≡ true) [
      | true ↦ λ s g.
          let is : q ≡ n = cc in
          among_left (on_path q n (d ∷ [])) (path q J) c (ap (λ b. among (cond b (d ∷ []) []) c) (eq-eqb n q (sym is)) ∙ ap (λ b. b || false) s)
      | false ↦ λ s g. among_right (on_path q n (d ∷ [])) (path q J) c (r g)
    ] refl e

-- the open contact is open on the path that asked it
pub open_on_asker : (J : List Entry) (c : Contact) → among (open_any J) c ≡ true → among (open_on (asker c J) J) c ≡ true
unfolding open_on
open_on_asker J c h =
    let says = open_any_says J c h in
    let by = asked_by_some c J says.0 in
    let is : by.0 ≡ asker c J = sym (get_or_from_slice_get (askers c J) 0 by.0 0 by.1) in
    let ask = subst (λ n. among (asked_on n J) c ≡ true) is by.2 in
    let ended : among (answered J ++ failed J) c ≡ false = among_more (answered J) (failed J) c ∙ ap (λ b. b || among (failed J) c) says.1 ∙ says.2 in
    among_without (asked_on (asker c J) J) (answered J ++ failed J) c ∙ and_from (among (asked_on (asker c J) J) c) (not (among (answered J ++ failed J) c)) ask (ap not ended)

-- the first path that asked the contact
pub some_asker : (J : List Entry) (c : Contact) (q : ℕ) → Some q ≡ slice_get (askers c J) 0 → among (asked_on q J) c ≡ true
some_asker J c q e =
    let by = asked_by_some c J (asker_asked c J q (sym e)) in
    let first_one = by.1 in
    let is : by.0 ≡ q = cc in
    subst (λ n. among (asked_on n J) c ≡ true) is by.2

pub no_asker : (J : List Entry) (c : Contact) → None ≡ slice_get (askers c J) 0 → among (asked J) c ≡ false
no_asker J c e = false_from_ne_true (among (asked J) c) (λ h. let by = asked_by_some c J h in let clash = by.1 in absurd cc)

pub some_holder : (J : List Entry) (c : Contact) (q : ℕ) → Some q ≡ slice_get (holders c J) 0 → among (path q J) c ≡ true
unfolding holders path
some_holder [] c q e = absurd cc
some_holder (Seed n d ∷ J) c q e = first n d J c q e (some_holder J c q)
some_holder (Taken n d ∷ J) c q e = first n d J c q e (some_holder J c q)
some_holder (x ∷ J) c q e = some_holder J c q e

pub no_holder : (J : List Entry) (c : Contact) → None ≡ slice_get (holders c J) 0 → among (took J) c ≡ false
no_holder J c e = false_from_ne_true (among (took J) c) (λ h. let by = held_by_some c J h in let clash = by.1 in absurd cc)
