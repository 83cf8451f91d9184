-- Which of two keys is above the other, byte by byte.
use Rattle.std.proofs.Common.{◌≡◌, ℕ, suc, ◌+◌, ◌<◌, ◌≤◌, Bool, true, false, List, [], ◌∷◌, length, drop, get_or, min, nat_lt, Ordering, refl, sym, ap, ◌∙◌, arith, length-drop}
use Rattle.std.specs.Prelude.{◌≢◌}
use Rattle.std.proofs.lemmas.Bool.Decides.{nat_tests}
use Rattle.std.specs.Cmp.{nat_cmp_is}
use Rattle.std.specs.Ordering.{nat_cmp, ordering_then}
use Rattle.std.specs.declared.cmp.Ordering.TheVariants.{Less, Equal, Greater}
use Rattle.std.proofs.Math.Seq.{drop-cons}
use Rattle.kad_bencode.specs.Keys.{key_cmp}
use Rattle.kad_bencode.specs.Finding.{IsAbove}

module _ (a b : List ℕ) (i : ℕ) (left : key_cmp a b ≡ key_cmp (drop i a) (drop i b)) where
  -- the bytes there decide, if they differ
  apart : i < length a → i < length b → (x : Ordering) → x ≡ nat_cmp (get_or a i 0) (get_or b i 0)
      → key_cmp a b ≡ ordering_then x (key_cmp (drop (suc i) a) (drop (suc i) b))
  apart h k x e = left ∙ (λ j. key_cmp (drop-cons a i 0 h j) (drop-cons b i 0 k j))
      ∙ ap (λ o. ordering_then o (key_cmp (drop (suc i) a) (drop (suc i) b))) (sym e)

  pub is_greater : i < length a → i < length b → get_or b i 0 < get_or a i 0 → key_cmp a b ≡ Greater
  is_greater h k g = apart h k Greater (nat_cmp_is (get_or a i 0) (get_or b i 0) Greater g)

  pub is_less : i < length a → i < length b → get_or a i 0 < get_or b i 0 → key_cmp a b ≡ Less
  is_less h k l = apart h k Less (nat_cmp_is (get_or a i 0) (get_or b i 0) Less l)

  pub goes_on : i < length a → i < length b → get_or a i 0 ≡ get_or b i 0
      → key_cmp a b ≡ key_cmp (drop (i + 1) a) (drop (i + 1) b)
  goes_on h k e = apart h k Equal (nat_cmp_is (get_or a i 0) (get_or b i 0) Equal e)
      ∙ (let n : suc i ≡ i + 1 = omega arith in ap (λ m. key_cmp (drop m a) (drop m b)) n)

  -- where one ends, the longer one is above
  pub ends : i ≡ min (length a) (length b) → IsAbove (key_cmp a b) (nat_lt (length b) (length a))
  ends e = by_length (nat_lt (length b) (length a)) (λ h. grind (arith, nat_tests)) (λ h. grind (arith, nat_tests))
    where
      more : (xs ys : List ℕ) → length ys ≡ 0 → 0 < length xs → key_cmp xs ys ≡ Greater
      more [] ys e h = absurd (omega (arith, h))
      more (x ∷ xs) [] e h = refl
      more (x ∷ xs) (y ∷ ys) e h = absurd (omega (arith, e))

      no_more : (xs ys : List ℕ) → length xs ≡ 0 → key_cmp xs ys ≢ Greater
      no_more [] [] e g = cc
      no_more [] (y ∷ ys) e g = cc
      no_more (x ∷ xs) ys e g = omega (arith, e)

      by_length : (c : Bool) → (c ≡ true → length b < length a) → (c ≡ false → length a ≤ length b) → IsAbove (key_cmp a b) c
      by_length true l m =
          let h = l refl in
          let x = length-drop i a in
          let y = length-drop i b in
          left ∙ more (drop i a) (drop i b) (omega (arith, e, h, y)) (omega (arith, e, h, x))
      by_length false l m = λ g.
          let h = m refl in
          let x = length-drop i a in
          no_more (drop i a) (drop i b) (omega (arith, e, h, x)) (sym left ∙ g)
