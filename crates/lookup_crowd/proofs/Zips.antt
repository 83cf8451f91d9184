-- Lists in step: what holds of each pair.
use Rattle.std.proofs.Common.{◌≡◌, ℕ, suc, List, [], ◌∷◌, length, ap}
use Rattle.std.specs.List.{AllByRecursion, AllZip}

module _ {A B : Type 0} where
  pub zip_weaker : (R T : A → B → Type 0) → ((a : A) (b : B) → R a b → T a b) → (xs : List A) (ys : List B) → AllZip R xs ys → AllZip T xs ys
  zip_weaker R T f [] [] h = tt
  zip_weaker R T f [] (y ∷ ys) h = absurd h
  zip_weaker R T f (x ∷ xs) [] h = absurd h
  zip_weaker R T f (x ∷ xs) (y ∷ ys) h = (f x y h.0, zip_weaker R T f xs ys h.1)

  pub zip_both : (R S T : A → B → Type 0) → ((a : A) (b : B) → R a b → S a b → T a b) → (xs : List A) (ys : List B) → AllZip R xs ys → AllZip S xs ys → AllZip T xs ys
  zip_both R S T f [] [] h k = tt
  zip_both R S T f [] (y ∷ ys) h k = absurd h
  zip_both R S T f (x ∷ xs) [] h k = absurd h
  zip_both R S T f (x ∷ xs) (y ∷ ys) h k = (f x y h.0 k.0, zip_both R S T f xs ys h.1 k.1)

  -- what holds of each on one side gives what holds of each on the other
  pub zip_right : (P : A → Type 0) (R : A → B → Type 0) (Q : B → Type 0) → ((a : A) (b : B) → P a → R a b → Q b) → (xs : List A) (ys : List B) → AllByRecursion P xs → AllZip R xs ys → AllByRecursion Q ys
  zip_right P R Q f [] [] p h = tt
  zip_right P R Q f [] (y ∷ ys) p h = absurd h
  zip_right P R Q f (x ∷ xs) [] p h = absurd h
  zip_right P R Q f (x ∷ xs) (y ∷ ys) p h = (f x y p.0 h.0, zip_right P R Q f xs ys p.1 h.1)

  pub zip_length : (R : A → B → Type 0) (xs : List A) (ys : List B) → AllZip R xs ys → length ys ≡ length xs
  zip_length R [] [] h = (λ i. 0)
  zip_length R [] (y ∷ ys) h = absurd h
  zip_length R (x ∷ xs) [] h = absurd h
  zip_length R (x ∷ xs) (y ∷ ys) h = ap (λ (n : ℕ). suc n) (zip_length R xs ys h.1)

module _ {A B C : Type 0} where
  pub zip_then : (R : A → B → Type 0) (S : B → C → Type 0) (T : A → C → Type 0) → ((a : A) (b : B) (c : C) → R a b → S b c → T a c) → (xs : List A) (ys : List B) (zs : List C) → AllZip R xs ys → AllZip S ys zs → AllZip T xs zs
  zip_then R S T f [] [] [] h k = tt
  zip_then R S T f [] [] (z ∷ zs) h k = absurd k
  zip_then R S T f [] (y ∷ ys) zs h k = absurd h
  zip_then R S T f (x ∷ xs) [] zs h k = absurd h
  zip_then R S T f (x ∷ xs) (y ∷ ys) [] h k = absurd k
  zip_then R S T f (x ∷ xs) (y ∷ ys) (z ∷ zs) h k = (f x y z h.0 k.0, zip_then R S T f xs ys zs h.1 k.1)

module _ {A : Type 0} where
  pub zip_same : (R : A → A → Type 0) → ((a : A) → R a a) → (xs : List A) → AllZip R xs xs
  zip_same R f [] = tt
  zip_same R f (x ∷ xs) = (f x, zip_same R f xs)

  pub each_weaker : (P Q : A → Type 0) → ((a : A) → P a → Q a) → (xs : List A) → AllByRecursion P xs → AllByRecursion Q xs
  each_weaker P Q f [] h = tt
  each_weaker P Q f (x ∷ xs) h = (f x h.0, each_weaker P Q f xs h.1)
