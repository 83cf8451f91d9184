-- Contacts in lists, in filters of lists and among the closest.
use Rattle.std.proofs.Common.{◌≡◌, ◌+◌, ◌≤◌, List, [], ◌∷◌, ◌++◌, length, inl, inr, Bool, true, false, not, ◌||◌, ◌&&◌, cond, refl, sym, ap, subst, ◌∙◌, arith}
use Rattle.std.specs.Prelude.{filter, find, Some, None}
use Rattle.std.specs.List.{IsDistinct, AllByRecursion, Contains}
use Rattle.std.proofs.lemmas.Bool.{or_cases, or_left, or_right, or_parts, and_parts, and_from, not-true}
use Rattle.std.proofs.lemmas.List.Elements.{filter_agree}
use Rattle.kad_base.specs.declared.types.Contact.{Contact}
use Rattle.kad_base.specs.Contacts.{same, among, without}
use Rattle.kad_base.proofs.Contacts.{same_exact, same_itself, same_back, among_more}
use Rattle.kad_distance.proofs.Members.{first_in, later_in, in_cases}

pub among_itself : (c : Contact) → among (c ∷ []) c ≡ true
among_itself c = ap (λ b. b || false) (same_itself c)

-- the only one of a list of one
pub among_one : (c d : Contact) → among (d ∷ []) c ≡ true → c ≡ d
among_one c d h = same_exact c d (only (same c d) h)
  where
    only : (b : Bool) → (b || false) ≡ true → b ≡ true
    only true e = refl
    only false e = e

-- a test holds of what passed
pub among_filter : (p : Contact → Bool) (cs : List Contact) (c : Contact) → among (filter p cs) c ≡ (among cs c && p c)
among_filter p [] c = refl
among_filter p (x ∷ cs) c =
    elim (p x) as (λ b. p x ≡ b → among (cond b (x ∷ filter p cs) (filter p cs)) c ≡ ((same c x || among cs c) && p c)) [
      | true ↦ λ px. ap (λ b. same c x || b) (among_filter p cs c) ∙ passes (same c x) (among cs c) (p c) (λ e. subst (λ y. p y ≡ true) (sym (same_exact c x e)) px)
      | false ↦ λ px. among_filter p cs c ∙ fails (same c x) (among cs c) (p c) (λ e. subst (λ y. p y ≡ false) (sym (same_exact c x e)) px)
    ] refl
  where
    passes : (a b q : Bool) → (a ≡ true → q ≡ true) → (a || (b && q)) ≡ ((a || b) && q)
    passes true b q f = sym (f refl)
    passes false b q f = refl

    fails : (a b q : Bool) → (a ≡ true → q ≡ false) → (b && q) ≡ ((a || b) && q)
    fails true true q f = refl
    fails true false q f = sym (f refl)
    fails false b q f = refl

pub among_without : (cs out : List Contact) (c : Contact) → among (without cs out) c ≡ (among cs c && not (among out c))
among_without cs out c = among_filter (λ x. not (among out x)) cs c

pub found_passes : (p : Contact → Bool) (cs : List Contact) (c : Contact) → find p cs ≡ Some c → p c ≡ true
found_passes p [] c e = absurd cc
found_passes p (x ∷ cs) c e =
    elim (p x) as (λ b. p x ≡ b → cond b (Some x) (find p cs) ≡ Some c → p c ≡ true) [
      | true ↦ λ px h. let q : x ≡ c = cc in subst (λ y. p y ≡ true) q px
      | false ↦ λ px h. found_passes p cs c h
    ] refl e

pub found_among : (p : Contact → Bool) (cs : List Contact) (c : Contact) → find p cs ≡ Some c → among cs c ≡ true
found_among p [] c e = absurd cc
found_among p (x ∷ cs) c e =
    elim (p x) as (λ b. cond b (Some x) (find p cs) ≡ Some c → (same c x || among cs c) ≡ true) [
      | true ↦ λ h. let q : c ≡ x = cc in ap (λ y. same c y || among cs c) (sym q) ∙ or_left (same c c) (among cs c) (same_itself c)
      | false ↦ λ h. or_right (same c x) (among cs c) (found_among p cs c h)
    ] e

-- none is found: each fails the test
pub none_found : (p : Contact → Bool) (cs : List Contact) → find p cs ≡ None → (c : Contact) → among cs c ≡ true → p c ≡ false
none_found p [] e c h = absurd cc
none_found p (x ∷ cs) e c h =
    elim (p x) as (λ b. p x ≡ b → cond b (Some x) (find p cs) ≡ None → p c ≡ false) [
      | true ↦ λ px f. absurd cc
      | false ↦ λ px f. here (same c x) refl px (none_found p cs f c)
    ] refl e
  where
    here : (b : Bool) → same c x ≡ b → p x ≡ false → (among cs c ≡ true → p c ≡ false) → p c ≡ false
    here true s px f = subst (λ y. p y ≡ false) (sym (same_exact c x s)) px
    here false s px f = f (sym (ap (λ b. b || among cs c) s) ∙ h)

pub among_none : (cs : List Contact) → cs ≡ [] → (c : Contact) → among cs c ≡ false
among_none cs e c = ap (λ l. among l c) e

-- a list that no contact is in
pub none_among : (cs : List Contact) → ((c : Contact) → among cs c ≡ false) → cs ≡ []
none_among [] h = refl
none_among (x ∷ cs) h = absurd (let e = sym (h x) ∙ or_left (same x x) (among cs x) (same_itself x) in cc)

-- a contact that is among a list is in it
pub in_list : (cs : List Contact) (c : Contact) → among cs c ≡ true → Contains cs c
in_list [] c h = absurd cc
in_list (x ∷ cs) c h = elim (or_cases (same c x) (among cs c) h) [ inl e ↦ subst (λ (z : Contact). Contains (x ∷ cs) z) (sym (same_exact c x e)) (first_in x cs) | inr r ↦ later_in x cs c (in_list cs c r) ]

pub from_list : (cs : List Contact) (c : Contact) → Contains cs c → among cs c ≡ true
from_list [] c (n, lt, e) = absurd (omega arith)
from_list (x ∷ cs) c h = elim (in_cases x cs c h) [ inl is ↦ or_left (same c x) (among cs c) (subst (λ z. same z x ≡ true) is (same_itself x)) | inr more ↦ or_right (same c x) (among cs c) (from_list cs c more) ]

-- a list without those of two is without those of one, and then of the other
pub without_twice : (cs xs ys : List Contact) → without cs (xs ++ ys) ≡ without (without cs xs) ys
without_twice [] xs ys = refl
without_twice (c ∷ cs) xs ys =
    ap (λ b. cond (not b) (c ∷ without cs (xs ++ ys)) (without cs (xs ++ ys))) (among_more xs ys c) ∙ by (among xs c) (without_twice cs xs ys)
  where
    by : (b : Bool) → without cs (xs ++ ys) ≡ without (without cs xs) ys → cond (not (b || among ys c)) (c ∷ without cs (xs ++ ys)) (without cs (xs ++ ys)) ≡ without (cond (not b) (c ∷ without cs xs) (without cs xs)) ys
    by true e = e
    by false e = ap (λ l. cond (not (among ys c)) (c ∷ l) l) e

-- in either order
pub without_swap : (cs xs ys : List Contact) → without (without cs xs) ys ≡ without (without cs ys) xs
without_swap cs xs ys = sym (without_twice cs xs ys) ∙ filter_agree (λ c. not (among (xs ++ ys) c)) (λ c. not (among (ys ++ xs) c)) (λ c. ap not (among_more xs ys c ∙ flip (among xs c) (among ys c) ∙ sym (among_more ys xs c))) cs ∙ without_twice cs ys xs
  where
    flip : (a b : Bool) → (a || b) ≡ (b || a)
    flip true true = refl
    flip true false = refl
    flip false true = refl
    flip false false = refl

-- one that isn't there is left out in vain
pub without_absent : (cs : List Contact) (c : Contact) → among cs c ≡ false → without cs (c ∷ []) ≡ cs
without_absent [] c h = refl
without_absent (x ∷ cs) c h =
    let parts = or_parts (same c x) (among cs c) h in
    ap (λ b. cond (not (b || false)) (x ∷ without cs (c ∷ [])) (without cs (c ∷ []))) (same_back x c ∙ parts.0) ∙ ap (λ l. x ∷ l) (without_absent cs c parts.1)

-- what none of the list is among is left out in vain
pub without_apart : (cs out : List Contact) → ((c : Contact) → among cs c ≡ true → among out c ≡ false) → without cs out ≡ cs
without_apart [] out f = refl
without_apart (x ∷ cs) out f =
    ap (λ b. cond (not b) (x ∷ without cs out) (without cs out)) (f x (or_left (same x x) (among cs x) (same_itself x)))
    ∙ ap (λ l. x ∷ l) (without_apart cs out (λ c h. f c (or_right (same c x) (among cs c) h)))

-- at least one less where one that is there is left out
pub without_fewer : (cs : List Contact) (c : Contact) → among cs c ≡ true → length (without cs (c ∷ [])) + 1 ≤ length cs
without_fewer [] c h = absurd cc
without_fewer (x ∷ cs) c h =
    elim (same x c) as (λ b. same x c ≡ b → length (cond (not (b || false)) (x ∷ without cs (c ∷ [])) (without cs (c ∷ []))) + 1 ≤ length (x ∷ cs)) [
      | true ↦ λ e. (let few = fewer cs in omega arith)
      | false ↦ λ e. (let rest = without_fewer cs c (sym (ap (λ b. b || among cs c) (same_back c x ∙ e)) ∙ h) in omega arith)
    ] refl
  where
    fewer : (cs : List Contact) → length (without cs (c ∷ [])) ≤ length cs
    fewer [] = omega arith
    fewer (y ∷ cs) =
        elim (same y c || false) as (λ b. length (cond (not b) (y ∷ without cs (c ∷ [])) (without cs (c ∷ []))) ≤ length (y ∷ cs)) [
          | true ↦ (let few = fewer cs in omega arith)
          | false ↦ (let few = fewer cs in omega arith)
        ]

-- how many are left where one more is out
pub without_less : (cs out more : List Contact) (c : Contact) → IsDistinct same cs → among (without cs out) c ≡ true → ((x : Contact) → among more x ≡ (among out x || same x c)) → length (without cs more) + 1 ≡ length (without cs out)
unfolding IsDistinct
without_less [] out more c d h f = absurd cc
without_less (x ∷ cs) out more c d h f =
    elim (same x c) as (λ b. same x c ≡ b → length (without (x ∷ cs) more) + 1 ≡ length (without (x ∷ cs) out)) [
      | true ↦ λ e.
          let is : x ≡ c = same_exact x c e in
          let stays : without cs more ≡ without cs out = apart cs out more c f (subst (λ y. AllByRecursion (λ z. same y z ≡ false) cs) is d.0) in
          let gone : among more x ≡ true = f x ∙ or_right (among out x) (same x c) e in
          let kept : among out x ≡ false = not-true (among out x) (subst (λ y. not (among out y) ≡ true) (sym is) (and_parts (among (c ∷ []) c) (not (among out c)) (last cs out c is h)).1) in
          ap (λ b. length (cond (not b) (x ∷ without cs more) (without cs more)) + 1) gone ∙ ap (λ l. length l + 1) stays ∙ (let n : length (without cs out) + 1 ≡ length (x ∷ without cs out) = omega arith in n) ∙ sym (ap (λ b. length (cond (not b) (x ∷ without cs out) (without cs out))) kept)
      | false ↦ λ e.
          let same_test : among more x ≡ among out x = f x ∙ ap (λ b. among out x || b) e ∙ or_no (among out x) in
          ap (λ b. length (cond (not b) (x ∷ without cs more) (without cs more)) + 1) same_test
          ∙ longer (not (among out x)) x (without cs more) (without cs out) (without_less cs out more c d.1 (rest (not (among out x)) x c (without cs out) (same_back c x ∙ e) h) f)
    ] refl
  where
    or_no : (b : Bool) → (b || false) ≡ b
    or_no true = refl
    or_no false = refl

    last : (cs out : List Contact) (c : Contact) → x ≡ c → among (without (x ∷ cs) out) c ≡ true → (among (c ∷ []) c && not (among out c)) ≡ true
    last cs out c e h = and_from (among (c ∷ []) c) (not (among out c)) (among_itself c) (and_parts (among (x ∷ cs) c) (not (among out c)) (sym (among_without (x ∷ cs) out c) ∙ h)).1

    rest : (b : Bool) (x c : Contact) (l : List Contact) → same c x ≡ false → among (cond b (x ∷ l) l) c ≡ true → among l c ≡ true
    rest true x c l e h = sym (ap (λ t. t || among l c) e) ∙ h
    rest false x c l e h = h

    longer : (b : Bool) (x : Contact) (l m : List Contact) → length l + 1 ≡ length m → length (cond b (x ∷ l) l) + 1 ≡ length (cond b (x ∷ m) m)
    longer true x l m e = omega arith
    longer false x l m e = e

    apart : (cs out more : List Contact) (c : Contact) → ((x : Contact) → among more x ≡ (among out x || same x c)) → AllByRecursion (λ y. same c y ≡ false) cs → without cs more ≡ without cs out
    apart [] out more c f a = refl
    apart (y ∷ cs) out more c f a =
        let t : among more y ≡ among out y = f y ∙ ap (λ b. among out y || b) (same_back y c ∙ a.0) ∙ or_no (among out y) in
        ap (λ b. cond (not b) (y ∷ without cs more) (without cs more)) t ∙ ap (λ l. cond (not (among out y)) (y ∷ l) l) (apart cs out more c f a.1)
