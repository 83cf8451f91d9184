-- Lists of which each element has a fact, sums over lists, and beginnings.
use Rattle.std.proofs.Common.{◌≡◌, ◌≢◌, ℕ, zero, suc, ◌+◌, ◌<◌, ◌≤◌, Bool, true, false, eqb, List, [], ◌∷◌, ◌++◌, map, length, set, drop, take, refl, sym, ap, ◌∙◌, arith, append_assoc, eq-eqb, ne_eqb, cond, append-nil, lt_of_not-le, All}
use mathlib.Core.Logic.{dite}
use native.Mathlib.Decide.{ℕ_discrete}
use mathlib.Core.Option.{some, some-injective, some-ne-none}
use lib.ListN.{get_elem?}
use Rattle.std.proofs.lemmas.List.Elements.{filter-append}
use Rattle.kad_base.specs.declared.serial.Made.{Made}
use Rattle.kad_base.specs.Serial.{calls_of}
use Rattle.turn_book.specs.Turns.{IsPrefix}
use Rattle.turn_book.specs.Rule.{Each, total, either_of}

module _ {A : Type 0} where
  pub Each-append : (P : A → Type 0) (xs ys : List A) → Each P xs → Each P ys → Each P (xs ++ ys)
  Each-append P [] ys a b = b
  Each-append P (x ∷ xs) ys a b = (a.0, Each-append P xs ys a.1 b)

  pub Each-weaker : (P Q : A → Type 0) (xs : List A) → ((x : A) → P x → Q x) → Each P xs → Each Q xs
  Each-weaker P Q [] f a = tt
  Each-weaker P Q (x ∷ xs) f a = (f x a.0, Each-weaker P Q xs f a.1)

  pub Each-both : (P Q R : A → Type 0) (xs : List A) → ((x : A) → P x → Q x → R x) → Each P xs → Each Q xs → Each R xs
  Each-both P Q R [] f a b = tt
  Each-both P Q R (x ∷ xs) f a b = (f x a.0 b.0, Each-both P Q R xs f a.1 b.1)

  pub Each-map : {B : Type 0} (P : B → Type 0) (f : A → B) (xs : List A) → Each (λ x. P (f x)) xs → Each P (map f xs)
  Each-map P f [] a = tt
  Each-map P f (x ∷ xs) a = (a.0, Each-map P f xs a.1)

  pub Each-drop : (P : A → Type 0) (xs : List A) → Each P xs → Each P (drop 1 xs)
  Each-drop P [] a = tt
  Each-drop P (x ∷ xs) a = a.1

  pub Each-take : (P : A → Type 0) (xs : List A) → Each P xs → Each P (take 1 xs)
  Each-take P [] a = tt
  Each-take P (x ∷ xs) a = (a.0, tt)

  pub total-append : (f : A → ℕ) (xs ys : List A) → total f (xs ++ ys) ≡ total f xs + total f ys
  total-append f [] ys = omega arith
  total-append f (x ∷ xs) ys = let e = total-append f xs ys in omega arith

  pub total-set : (f : A → ℕ) (xs : List A) (i : ℕ) (v w : A) → get_elem? xs i ≡ some v → total f (set xs i w) + f v ≡ total f xs + f w
  total-set f [] i v w e = absurd (some-ne-none v (sym e))
  total-set f (x ∷ xs) zero v w e = let same = ap f (some-injective x v e) in omega arith
  total-set f (x ∷ xs) (suc i) v w e = let h = total-set f xs i v w e in omega arith

  pub total-at : (f : A → ℕ) (xs : List A) (i : ℕ) (v : A) → get_elem? xs i ≡ some v → f v ≤ total f xs
  total-at f [] i v e = absurd (some-ne-none v (sym e))
  total-at f (x ∷ xs) zero v e = let same = ap f (some-injective x v e) in omega arith
  total-at f (x ∷ xs) (suc i) v e = let h = total-at f xs i v e in omega arith

  pub total-two : (f : A → ℕ) (xs : List A) (i j : ℕ) (v w : A) → i ≢ j → get_elem? xs i ≡ some v → get_elem? xs j ≡ some w → f v + f w ≤ total f xs
  total-two f [] i j v w n e d = absurd (some-ne-none v (sym e))
  total-two f (x ∷ xs) zero zero v w n e d = absurd (n refl)
  total-two f (x ∷ xs) zero (suc j) v w n e d = let same = ap f (some-injective x v e) in let h = total-at f xs j w d in omega arith
  total-two f (x ∷ xs) (suc i) zero v w n e d = let same = ap f (some-injective x w d) in let h = total-at f xs i v e in omega arith
  total-two f (x ∷ xs) (suc i) (suc j) v w n e d = let h = total-two f xs i j v w (λ s. n (ap suc s)) e d in omega arith

  pub total-map : {B : Type 0} (f : B → ℕ) (g : A → B) (xs : List A) → total f (map g xs) ≡ total (λ x. f (g x)) xs
  total-map f g [] = refl
  total-map f g (x ∷ xs) = ap (λ n. f (g x) + n) (total-map f g xs)

  pub IsPrefix-push : (xs ys : List A) (y : A) → IsPrefix xs ys → IsPrefix xs (ys ++ y ∷ [])
  IsPrefix-push xs ys y b = (b.0 ++ y ∷ [], ap (λ l. l ++ y ∷ []) b.1 ∙ append_assoc xs b.0 (y ∷ []))

  pub IsPrefix-refl : (xs ys : List A) → xs ≡ ys → IsPrefix xs ys
  IsPrefix-refl xs ys e = ([], sym e ∙ nil xs)
    where
      nil : (l : List A) → l ≡ l ++ []
      nil [] = refl
      nil (x ∷ l) = ap (λ t. x ∷ t) (nil l)

  pub none_of : (f : A → Bool) (xs : List A) → total (λ x. either_of (f x)) xs ≡ 0 → Each (λ x. f x ≡ false) xs
  none_of f [] e = tt
  none_of f (x ∷ xs) e = (off (f x) (omega arith), none_of f xs (omega arith))
    where
      off : (b : Bool) → either_of b ≡ 0 → b ≡ false
      off true e = absurd (omega arith)
      off false e = refl

module _ {C R : Type 0} where
  pub calls_of-other : (r : ℕ) (run : List (Made C R)) (e : Made C R) → e.role ≢ r → calls_of r (run ++ e ∷ []) ≡ calls_of r run
  calls_of-other r run e ne =
      filter-append (λ (x : Made C R). eqb x.role r) run (e ∷ []) ∙ (ap (λ b. calls_of r run ++ cond b (e ∷ []) []) (ne_eqb e.role r ne) ∙ append-nil (calls_of r run))

  pub calls_of-same : (r : ℕ) (run : List (Made C R)) (e : Made C R) → e.role ≡ r → calls_of r (run ++ e ∷ []) ≡ calls_of r run ++ e ∷ []
  calls_of-same r run e is =
      filter-append (λ (x : Made C R). eqb x.role r) run (e ∷ []) ∙ ap (λ b. calls_of r run ++ cond b (e ∷ []) []) (eq-eqb e.role r is)

module _ {A : Type 0} where
  pub Each-unmap : {B : Type 0} (P : B → Type 0) (f : A → B) (xs : List A) → Each P (map f xs) → Each (λ x. P (f x)) xs
  Each-unmap P f [] a = tt
  Each-unmap P f (x ∷ xs) a = (a.0, Each-unmap P f xs a.1)

  pub Each-all : (P : A → Type 0) (xs : List A) → Each P xs → All P xs
  Each-all P [] a k d lt = absurd (omega arith)
  Each-all P (x ∷ xs) a zero d lt = a.0
  Each-all P (x ∷ xs) a (suc k) d lt = Each-all P xs a.1 k d (omega arith)

module _ {A : Type 0} (g : A → ℕ) where
  -- how many elements have the number n
  abbrev count : ℕ → List A → ℕ
  count n xs = total (λ x. either_of (eqb (g x) n)) xs

  -- how many have a number below n
  abbrev counts : ℕ → List A → ℕ
  counts zero xs = 0
  counts (suc n) xs = counts n xs + count n xs

  one_more : (n : ℕ) (x : A) (xs : List A) → counts n (x ∷ xs) ≡ counts n (x ∷ []) + counts n xs
  one_more zero x xs = refl
  one_more (suc n) x xs = let h = one_more n x xs in omega arith

  its_number : (n : ℕ) (x : A) → g x < n → 1 ≤ counts n (x ∷ [])
  its_number zero x lt = absurd (omega arith)
  its_number (suc n) x lt = dite (ℕ_discrete (g x) n)
      (λ here. let on = ap either_of (eq-eqb (g x) n here) in omega arith)
      (λ other. let h = its_number n x (omega (arith, other)) in omega arith)

  as_many : (n : ℕ) (xs : List A) → ((k : ℕ) → n ≤ k → count k xs ≡ 0) → length xs ≤ counts n xs
  as_many n [] none_above = omega arith
  as_many n (x ∷ xs) none_above =
      let below : g x < n = lt_of_not-le (λ (above : n ≤ g x). let z = none_above (g x) above in let on = ap either_of (eq-eqb (g x) (g x) refl) in omega arith) in
      let a = its_number n x below in
      let h = as_many n xs (λ k above. let z = none_above k above in omega arith) in
      let m = one_more n x xs in
      omega arith

  few : (n : ℕ) (xs : List A) → ((k : ℕ) → count k xs ≤ 1) → counts n xs ≤ n
  few zero xs one = omega arith
  few (suc n) xs one = let h = few n xs one in let o = one n in omega arith

  fewer : (n k : ℕ) (xs : List A) → ((k : ℕ) → count k xs ≤ 1) → k < n → count k xs ≡ 0 → counts n xs + 1 ≤ n
  fewer zero k xs one lt none_has = absurd (omega arith)
  fewer (suc n) k xs one lt none_has = dite (ℕ_discrete k n)
      (λ here. let z : count n xs ≡ 0 = sym (ap (λ i. count i xs) here) ∙ none_has in let h = few n xs one in omega arith)
      (λ other. let h = fewer n k xs one (omega (arith, other)) none_has in let o = one n in omega arith)

  -- where n elements have different numbers below n, each number is one's
  pub holds_every : (n : ℕ) (xs : List A) → length xs ≡ n → ((k : ℕ) → count k xs ≤ 1) → ((k : ℕ) → n ≤ k → count k xs ≡ 0) → (k : ℕ) → k < n → 1 ≤ count k xs
  holds_every n xs long one above k lt = dite (ℕ_discrete (count k xs) 0)
      (λ none_has. let f = fewer n k xs one lt none_has in let a = as_many n xs above in absurd (omega arith))
      (λ other. omega (arith, other))
