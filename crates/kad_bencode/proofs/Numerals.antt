-- Numbers in base ten.
use Rattle.std.proofs.Common.{◌≡◌, ℕ, ◌+◌, ◌*◌, ◌/◌, ◌%◌, ◌<◌, ◌≤◌, false, [], ◌∷◌, ◌++◌, map, nat_eq, refl, sym, ap, ◌∙◌, arith}
use Rattle.std.specs.Int.Digits.{digits_of}
use Rattle.std.proofs.lemmas.Int.Digits.{digits_of_step}
use Rattle.std.proofs.lemmas.List.{map-append}
use Rattle.std.proofs.lemmas.Bool.Decides.{nat_tests}
use Rattle.kad_bencode.specs.Spelling.{numeral}

pub numeral_0 : numeral 0 ≡ 48 ∷ []
numeral_0 = refl

pub not_zero : (n : ℕ) → 0 < n → nat_eq n 0 ≡ false
not_zero n h = grind (arith, nat_tests)

pub numeral_positive : (n : ℕ) → 0 < n → numeral n ≡ map (λ d. 48 + d) (digits_of 10 n)
numeral_positive n h = rw (not_zero n h)

pub numeral_digit : (n : ℕ) → 0 < n → n < 10 → numeral n ≡ (48 + n) ∷ []
numeral_digit n h k =
    let q : n / 10 ≡ 0 = omega arith in
    let r : n % 10 ≡ n = omega arith in
    numeral_positive n h ∙ ap (map (λ d. 48 + d)) (digits_of_step 10 n (omega arith) h ∙ (λ i. digits_of 10 (q i) ++ (r i) ∷ []))

pub numeral_more : (n d : ℕ) → 0 < n → d < 10 → numeral (n * 10 + d) ≡ numeral n ++ (48 + d) ∷ []
numeral_more n d h k =
    let q : (n * 10 + d) / 10 ≡ n = omega arith in
    let r : (n * 10 + d) % 10 ≡ d = omega arith in
    numeral_positive (n * 10 + d) (omega arith)
    ∙ ap (map (λ d. 48 + d)) (digits_of_step 10 (n * 10 + d) (omega arith) (omega arith) ∙ (λ i. digits_of 10 (q i) ++ (r i) ∷ []))
    ∙ map-append (λ d. 48 + d) (digits_of 10 n) (d ∷ [])
    ∙ ap (λ l. l ++ (48 + d) ∷ []) (sym (numeral_positive n h))

pub numeral_step : (n : ℕ) → 10 ≤ n → numeral n ≡ numeral (n / 10) ++ (48 + n % 10) ∷ []
numeral_step n h =
    let e : n ≡ n / 10 * 10 + n % 10 = omega arith in
    ap numeral e ∙ numeral_more (n / 10) (n % 10) (omega arith) (omega arith)
