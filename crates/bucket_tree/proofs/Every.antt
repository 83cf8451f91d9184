-- What holds of each member of joined lists, and of what a filter keeps.
use Rattle.std.proofs.Common.{◌≡◌, ◌+◌, ◌≤◌, ◌||◌, List, [], ◌∷◌, ◌++◌, length, drop, Bool, true, false, cond, not, refl, sym, ap, subst, ◌∙◌, arith}
use Rattle.std.specs.Prelude.{filter}
use Rattle.std.specs.List.{All, list_any, flat_map}
use Rattle.std.proofs.lemmas.List.{get_or_append_left, get_or-append-add, length-append, append_assoc}
use Rattle.std.proofs.lemmas.List.Elements.{All-append, All-cons, All-nil, All-head, All-tail, filter-append}

module _ {A : Type 0} (P : A → Type 0) where
  pub all-left : (xs ys : List A) → All P (xs ++ ys) → All P xs
  all-left xs ys a k d lt = subst P (get_or_append_left xs ys d k lt) (a k d (omega (arith, length-append xs ys)))

  pub all-right : (xs ys : List A) → All P (xs ++ ys) → All P ys
  all-right xs ys a k d lt = subst P (get_or-append-add xs ys k d) (a (length xs + k) d (omega (arith, length-append xs ys)))

  pub all-here : (xs : List A) (y : A) (ys : List A) → All P (xs ++ y ∷ ys) → P y
  all-here xs y ys a = All-head P y ys (all-right xs (y ∷ ys) a)

  pub all-after : (xs : List A) (y : A) (ys : List A) → All P (xs ++ y ∷ ys) → All P ys
  all-after xs y ys a = All-tail P y ys (all-right xs (y ∷ ys) a)

  pub all-one : (y : A) → P y → All P (y ∷ [])
  all-one y p = All-cons P y [] p (All-nil P)

  pub all-put : (xs : List A) (y z : A) (ys : List A) → All P (xs ++ y ∷ ys) → P z → All P (xs ++ z ∷ ys)
  all-put xs y z ys a p = All-append P xs (z ∷ ys) (all-left xs (y ∷ ys) a) (All-cons P z ys p (all-after xs y ys a))

module _ {A : Type 0} (q : A → Bool) where
  pub count-append : (xs ys : List A) → length (filter q (xs ++ ys)) ≡ length (filter q xs) + length (filter q ys)
  count-append xs ys = ap length (filter-append q xs ys) ∙ length-append (filter q xs) (filter q ys)

  pub count-one : (x : A) → length (filter q (x ∷ [])) ≡ cond (q x) 1 0
  count-one x = go (q x)
    where
      go : (b : Bool) → length (cond b (x ∷ []) []) ≡ cond b 1 0
      go true = refl
      go false = refl

  pub count-filter : (p : A → Bool) (xs : List A) → length (filter q (filter p xs)) ≤ length (filter q xs)
  count-filter p [] = omega arith
  count-filter p (x ∷ xs) = go (p x) (q x) refl (count-filter p xs)
    where
      go : (s t : Bool) → q x ≡ t → length (filter q (filter p xs)) ≤ length (filter q xs)
          → length (filter q (cond s (x ∷ filter p xs) (filter p xs))) ≤ length (cond t (x ∷ filter q xs) (filter q xs))
      go true true e le = rw e (omega arith)
      go true false e le = rw e le
      go false true e le = omega arith
      go false false e le = le

  pub count-drop : (xs : List A) → length (filter q (drop 1 xs)) ≤ length (filter q xs)
  count-drop [] = omega arith
  count-drop (x ∷ xs) = go (q x)
    where
      go : (t : Bool) → length (filter q xs) ≤ length (cond t (x ∷ filter q xs) (filter q xs))
      go true = omega arith
      go false = omega arith

  -- where none passes
  pub count-none : (xs : List A) → list_any q xs ≡ false → length (filter q xs) ≡ 0
  count-none [] e = refl
  count-none (x ∷ xs) e = go (q x) e (count-none xs)
    where
      go : (t : Bool) → (t || list_any q xs) ≡ false → (list_any q xs ≡ false → length (filter q xs) ≡ 0) → length (cond t (x ∷ filter q xs) (filter q xs)) ≡ 0
      go true f g = absurd cc
      go false f g = g f

  -- nor of those that don't pass
  pub count-not : (xs : List A) → length (filter q (filter (λ x. not (q x)) xs)) ≡ 0
  count-not [] = refl
  count-not (x ∷ xs) = go (q x) refl (count-not xs)
    where
      go : (t : Bool) → q x ≡ t → length (filter q (filter (λ y. not (q y)) xs)) ≡ 0 → length (filter q (cond (not t) (x ∷ filter (λ y. not (q y)) xs) (filter (λ y. not (q y)) xs))) ≡ 0
      go true e n = n
      go false e n = rw e n

  pub any-count : (xs : List A) → list_any q xs ≡ true → 1 ≤ length (filter q xs)
  any-count [] e = absurd cc
  any-count (x ∷ xs) e = go (q x) e (any-count xs)
    where
      go : (t : Bool) → (t || list_any q xs) ≡ true → (list_any q xs ≡ true → 1 ≤ length (filter q xs)) → 1 ≤ length (cond t (x ∷ filter q xs) (filter q xs))
      go true f g = omega arith
      go false f g = g f

-- what passes the one passes the other
pub count-implies : {A : Type 0} (p q : A → Bool) → ((x : A) → p x ≡ true → q x ≡ true) → (xs : List A) → length (filter p xs) ≤ length (filter q xs)
count-implies p q f [] = omega arith
count-implies p q f (x ∷ xs) = go (p x) (q x) (f x) (count-implies p q f xs)
  where
    go : (s t : Bool) → (s ≡ true → t ≡ true) → length (filter p xs) ≤ length (filter q xs) → length (cond s (x ∷ filter p xs) (filter p xs)) ≤ length (cond t (x ∷ filter q xs) (filter q xs))
    go true true h le = omega arith
    go true false h le = let e = h refl in absurd cc
    go false true h le = omega arith
    go false false h le = le

pub flat_map-append : {A B : Type 0} (f : A → List B) (xs ys : List A) → flat_map f (xs ++ ys) ≡ flat_map f xs ++ flat_map f ys
flat_map-append f [] ys = refl
flat_map-append f (x ∷ xs) ys = ap (λ (l : List _). f x ++ l) (flat_map-append f xs ys) ∙ sym (append_assoc (f x) (flat_map f xs) (flat_map f ys))
