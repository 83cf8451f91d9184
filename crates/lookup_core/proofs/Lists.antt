-- Small facts of lists.
use Rattle.std.proofs.Common.{◌≡◌, ◌⊎◌, ℕ, zero, suc, ◌<◌, Bool, true, false, cond, List, [], ◌∷◌, ◌++◌, length, get_or, take, drop, Some, inl, inr, refl, sym, ap, subst, arith}
use Rattle.std.specs.Prelude.{Contains, filter, map, slice_get}
use Rattle.std.specs.List.{AllByRecursion}

pub map_append : {A B : Type 0} (f : A → B) (xs ys : List A) → map f (xs ++ ys) ≡ map f xs ++ map f ys
map_append f [] ys = refl
map_append f (x ∷ xs) ys = ap (λ l. f x ∷ l) (map_append f xs ys)

pub all_append : {A : Type 0} (P : A → Type 0) (xs ys : List A) → AllByRecursion P xs → AllByRecursion P ys → AllByRecursion P (xs ++ ys)
all_append P [] ys h k = k
all_append P (x ∷ xs) ys h k = (h.0, all_append P xs ys h.1 k)

pub in_cons : {A : Type 0} (x : A) (xs : List A) (y : A) → Contains (x ∷ xs) y → (y ≡ x) ⊎ Contains xs y
in_cons x xs y h = at h.0 h.1 h.2
  where
    at : (k : ℕ) → k < length (x ∷ xs) → get_or (x ∷ xs) k y ≡ y → (y ≡ x) ⊎ Contains xs y
    at zero lt e = inl (sym e)
    at (suc k) lt e = inr (k, omega (arith, lt), e)

pub in_first : {A : Type 0} (x : A) (xs : List A) → Contains (x ∷ xs) x
in_first x xs = (0, omega arith, refl)

pub in_rest : {A : Type 0} (x : A) (xs : List A) (y : A) → Contains xs y → Contains (x ∷ xs) y
in_rest x xs y h = (suc h.0, (let lt = h.1 in omega (arith, lt)), h.2)

pub none_in : {A : Type 0} (y : A) → Contains [] y → ⊥
none_in y h = (let lt = h.1 in absurd (omega (arith, lt)))

pub in_map : {A B : Type 0} (f : A → B) (xs : List A) (y : B) → Contains (map f xs) y → (x : A) × Contains xs x × (y ≡ f x)
in_map f [] y h = absurd (none_in y h)
in_map {A} {B} f (x ∷ xs) y h =
    elim (in_cons (f x) (map f xs) y h) [
      | inl e ↦ (x, in_first x xs, e)
      | inr rest ↦ (let found = in_map f xs y rest in (found.0, in_rest x xs found.0 found.1, found.2))
    ]

pub all_in : {A : Type 0} (P : A → Type 0) (xs : List A) (x : A) → AllByRecursion P xs → Contains xs x → P x
all_in P [] x h has = absurd (none_in x has)
all_in P (y ∷ xs) x h has =
    elim (in_cons y xs x has) [
      | inl e ↦ subst P (sym e) h.0
      | inr rest ↦ all_in P xs x h.1 rest
    ]

pub in_middle : {A : Type 0} (before : List A) (x : A) (behind : List A) → Contains (before ++ x ∷ behind) x
in_middle [] x behind = in_first x behind
in_middle (y ∷ before) x behind = in_rest y (before ++ x ∷ behind) x (in_middle before x behind)

pub map_in : {A B : Type 0} (f : A → B) (xs : List A) (x : A) → Contains xs x → Contains (map f xs) (f x)
map_in f [] x h = absurd (none_in x h)
map_in f (y ∷ xs) x h =
    elim (in_cons y xs x h) [
      | inl e ↦ subst (λ z. Contains (map f (y ∷ xs)) (f z)) (sym e) (in_first (f y) (map f xs))
      | inr rest ↦ in_rest (f y) (map f xs) (f x) (map_in f xs x rest)
    ]

pub split_at : {A : Type 0} (xs : List A) (n : ℕ) (x : A) → slice_get xs n ≡ Some x → xs ≡ take n xs ++ x ∷ drop (suc n) xs
split_at [] n x e = absurd cc
split_at (y ∷ xs) zero x e = (let same : y ≡ x = cc in ap (λ z. z ∷ xs) same)
split_at (y ∷ xs) (suc n) x e = ap (λ l. y ∷ l) (split_at xs n x e)

pub all_front : {A : Type 0} (P : A → Type 0) (xs ys : List A) → AllByRecursion P (xs ++ ys) → AllByRecursion P xs
all_front P [] ys h = tt
all_front P (x ∷ xs) ys h = (h.0, all_front P xs ys h.1)

pub all_weaker : {A : Type 0} (P Q : A → Type 0) → ((x : A) → P x → Q x) → (xs : List A) → AllByRecursion P xs → AllByRecursion Q xs
all_weaker P Q f [] h = tt
all_weaker P Q f (x ∷ xs) h = (f x h.0, all_weaker P Q f xs h.1)

pub kept_one : {A : Type 0} (p : A → Bool) (x : A) (xs : List A) → p x ≡ true → filter p (x ∷ xs) ≡ x ∷ filter p xs
kept_one p x xs is = ap (λ b. cond b (x ∷ filter p xs) (filter p xs)) is

pub left_one : {A : Type 0} (p : A → Bool) (x : A) (xs : List A) → p x ≡ false → filter p (x ∷ xs) ≡ filter p xs
left_one p x xs is = ap (λ b. cond b (x ∷ filter p xs) (filter p xs)) is
