-- Small facts of lists.
use Rattle.std.proofs.Common.{◌≡◌, ℕ, zero, suc, ◌+◌, ◌<◌, ◌≤◌, List, [], ◌∷◌, ◌++◌, length, get_or, take, inl, inr, refl, sym, subst, arith}
use Rattle.std.specs.Prelude.{Contains}
use Rattle.std.specs.List.{AllByRecursion}
use Rattle.std.proofs.lemmas.List.{take_more, take_all}
use Rattle.lookup_core.proofs.Lists.{all_append, in_cons, in_first, in_rest, none_in}

pub all_back : {A : Type 0} (P : A → Type 0) (xs ys : List A) → AllByRecursion P (xs ++ ys) → AllByRecursion P ys
all_back P [] ys h = h
all_back P (x ∷ xs) ys h = all_back P xs ys h.1

pub all_at : {A : Type 0} (P : A → Type 0) (xs : List A) (i : ℕ) (d : A) → AllByRecursion P xs → i < length xs → P (get_or xs i d)
all_at P [] i d h lt = absurd (omega (arith, lt))
all_at P (x ∷ xs) zero d h lt = h.0
all_at P (x ∷ xs) (suc i) d h lt = all_at P xs i d h.1 (omega (arith, lt))

pub in_left : {A : Type 0} (xs ys : List A) (y : A) → Contains xs y → Contains (xs ++ ys) y
in_left [] ys y h = absurd (none_in y h)
in_left (x ∷ xs) ys y h =
    elim (in_cons x xs y h) [
      | inl e ↦ subst (λ z. Contains (x ∷ (xs ++ ys)) z) (sym e) (in_first x (xs ++ ys))
      | inr rest ↦ in_rest x (xs ++ ys) y (in_left xs ys y rest)
    ]

pub in_right : {A : Type 0} (xs ys : List A) (y : A) → Contains ys y → Contains (xs ++ ys) y
in_right [] ys y h = h
in_right (x ∷ xs) ys y h = in_rest x (xs ++ ys) y (in_right xs ys y h)

-- what holds of the first holds of one more, and in the end of all
pub all_more : {A : Type 0} (P : A → Type 0) (i : ℕ) (xs : List A) (d : A) → i < length xs → AllByRecursion P (take i xs) → P (get_or xs i d) → AllByRecursion P (take (i + 1) xs)
all_more P i xs d lt h one = subst (AllByRecursion P) (sym (take_more xs i d lt)) (all_append P (take i xs) (get_or xs i d ∷ []) h (one, tt))

pub all_taken : {A : Type 0} (P : A → Type 0) (i : ℕ) (xs : List A) → length xs ≤ i → AllByRecursion P (take i xs) → AllByRecursion P xs
all_taken P i xs le h = subst (AllByRecursion P) (take_all i xs le) h

pub none_front : {A : Type 0} (xs ys : List A) → xs ++ ys ≡ [] → xs ≡ []
none_front [] ys e = refl
none_front (x ∷ xs) ys e = absurd cc

pub none_back : {A : Type 0} (xs ys : List A) → xs ++ ys ≡ [] → ys ≡ []
none_back [] ys e = e
none_back (x ∷ xs) ys e = absurd cc
