-- How many pass a filter, and what it keeps.
use Rattle.std.proofs.Common.{◌≡◌, suc, ◌+◌, ◌≤◌, ◌||◌, List, [], ◌∷◌, length, Bool, true, false, cond, not, map, refl, ap, arith}
use Rattle.std.specs.Prelude.{filter}
use Rattle.std.specs.List.{list_any}

module _ {A : Type 0} (p : A → Bool) where
  pub filter-few : (xs : List A) → length (filter p xs) ≤ length xs
  filter-few [] = omega arith
  filter-few (x ∷ xs) = go (p x) (filter-few xs)
    where
      go : (b : Bool) → length (filter p xs) ≤ length xs → length (cond b (x ∷ filter p xs) (filter p xs)) ≤ suc (length xs)
      go true le = omega arith
      go false le = omega arith

  -- one that doesn't pass leaves one fewer
  pub filter-fewer : (xs : List A) → list_any p xs ≡ true → length (filter (λ x. not (p x)) xs) + 1 ≤ length xs
  filter-fewer [] e = absurd cc
  filter-fewer (x ∷ xs) e = go (p x) e (filter-fewer xs) (few xs)
    where
      few : (ys : List A) → length (filter (λ x. not (p x)) ys) ≤ length ys
      few [] = omega arith
      few (y ∷ ys) = more (p y) (few ys)
        where
          more : (b : Bool) → length (filter (λ x. not (p x)) ys) ≤ length ys → length (cond (not b) (y ∷ filter (λ x. not (p x)) ys) (filter (λ x. not (p x)) ys)) ≤ suc (length ys)
          more true le = omega arith
          more false le = omega arith

      go : (b : Bool) → (b || list_any p xs) ≡ true → (list_any p xs ≡ true → length (filter (λ x. not (p x)) xs) + 1 ≤ length xs) → length (filter (λ x. not (p x)) xs) ≤ length xs
          → length (cond (not b) (x ∷ filter (λ x. not (p x)) xs) (filter (λ x. not (p x)) xs)) + 1 ≤ suc (length xs)
      go true f g le = omega arith
      go false f g le = let h = g f in omega arith

-- what passes after a map
pub filter-map : {A B : Type 0} (f : A → B) (p : B → Bool) (xs : List A) → filter p (map f xs) ≡ map f (filter (λ x. p (f x)) xs)
filter-map f p [] = refl
filter-map f p (x ∷ xs) = go (p (f x)) (filter-map f p xs)
  where
    go : (b : Bool) → filter p (map f xs) ≡ map f (filter (λ y. p (f y)) xs) → cond b (f x ∷ filter p (map f xs)) (filter p (map f xs)) ≡ map f (cond b (x ∷ filter (λ y. p (f y)) xs) (filter (λ y. p (f y)) xs))
    go true e = ap (λ (l : List _). f x ∷ l) e
    go false e = e

pub any-map : {A B : Type 0} (f : A → B) (p : B → Bool) (xs : List A) → list_any p (map f xs) ≡ list_any (λ x. p (f x)) xs
any-map f p [] = refl
any-map f p (x ∷ xs) = ap (λ (b : Bool). p (f x) || b) (any-map f p xs)
