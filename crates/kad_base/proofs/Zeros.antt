-- Leading zero bits, byte after byte.
use Rattle.std.proofs.Common.{◌≡◌, ◌≢◌, ◌↔◌, ℕ, zero, suc, ◌+◌, ◌-◌, ◌*◌, ◌<◌, ◌≤◌, ◌^◌, List, [], ◌∷◌, length, drop, get_or, refl, sym, ap, subst, ◌∙◌, inl, inr, arith}
use Rattle.std.specs.Int.Count.{count_leading_zeros}
use Rattle.std.proofs.Math.Nat.{pow-le-pow_right, mul-le-mul_right, pow-suc}
use Rattle.std.proofs.lemmas.Nat.{pow_pos, pow-add, leading_length}
use Rattle.std.proofs.lemmas.List.{drop_more, drop_all, get_or-drop}
use Rattle.std.proofs.lemmas.Bool.{cases_lt}
use Rattle.kad_base.specs.Bits.{number_of, BeginsWithZeros}

abbrev pub AllBytes : List ℕ → Type 0
AllBytes bytes = (i : ℕ) → get_or bytes i 0 < 256

number_of-below : (bytes : List ℕ) → AllBytes bytes → number_of bytes < 256 ^ length bytes
number_of-below [] small = omega arith
number_of-below (b ∷ bytes) small =
    let K = 256 ^ length bytes in
    let rest : number_of bytes < K = number_of-below bytes (λ i. small (suc i)) in
    let first : b + 1 ≤ 256 = omega (arith, small 0) in
    let whole : (b + 1) * K ≤ 256 * K = mul-le-mul_right K first in
    let next : 256 ^ suc (length bytes) ≡ K * 256 = pow-suc 256 (length bytes) in
    omega arith

byte_power : (n : ℕ) → 256 ^ n ≡ 2 ^ (8 * n)
byte_power zero = refl
byte_power (suc n) =
    let e : 8 * suc n ≡ 8 * n + 8 = omega arith in
    pow-suc 256 n ∙ ap (λ (x : ℕ). x * 256) (byte_power n) ∙ sym (ap (λ (x : ℕ). 2 ^ x) e ∙ pow-add 2 (8 * n) 8)

-- the bound of a byte and those after it, for at most 8 bits
power_less : (n left : ℕ) → left ≤ 8 → 2 ^ (8 * suc n - left) ≡ 2 ^ (8 - left) * 256 ^ n
power_less n left few =
    let e : 8 * suc n - left ≡ 8 - left + 8 * n = omega arith in
    ap (λ (x : ℕ). 2 ^ x) e ∙ pow-add 2 (8 - left) (8 * n) ∙ ap (λ (x : ℕ). 2 ^ (8 - left) * x) (sym (byte_power n))

-- what begins with zero bits begins with fewer; past the end of the bytes more bits ask for no more
pub zeros_fewer : (bytes : List ℕ) (few many : ℕ) → 8 * length bytes - many ≤ 8 * length bytes - few → BeginsWithZeros many bytes → BeginsWithZeros few bytes
unfolding BeginsWithZeros
zeros_fewer bytes few many le below =
    let bound : 2 ^ (8 * length bytes - many) ≤ 2 ^ (8 * length bytes - few) = pow-le-pow_right (omega arith) le in
    omega arith

zeros_none : (left : ℕ) → BeginsWithZeros left []
unfolding BeginsWithZeros
zeros_none left = pow_pos (8 * 0 - left)

zeros_last : (left b : ℕ) (bytes : List ℕ) → left ≤ 8 → AllBytes (b ∷ bytes)
    → (left ≤ count_leading_zeros 8 b) ↔ BeginsWithZeros left (b ∷ bytes)
unfolding BeginsWithZeros
zeros_last left b bytes few small =
    let K = 256 ^ length bytes in
    let P = 2 ^ (8 - left) in
    let rest : number_of bytes < K = number_of-below bytes (λ i. small (suc i)) in
    let bound : 2 ^ (8 * suc (length bytes) - left) ≡ P * K = power_less (length bytes) left few in
    let top = leading_length 8 b (small 0) in
    let m = top.0 in
    let sum_is = top.1 in
    let low : b < 2 ^ m = top.2 in
    let high : 2 ^ m ≤ 2 * b + 1 = top.3 in (
      λ le.
          let fits : 2 ^ m ≤ P = (let h : m ≤ 8 - left = omega arith in pow-le-pow_right (omega arith) h) in
          let first : b + 1 ≤ P = omega arith in
          let whole : (b + 1) * K ≤ P * K = mul-le-mul_right K first in
          rw bound (omega arith),
      λ below.
          let below' : b * K + number_of bytes < P * K = rw bound at below in
          elim (cases_lt (count_leading_zeros 8 b) left) [
            | inl lt ↦
                let more : suc (8 - left) ≤ m = omega arith in
                let twice : 2 ^ suc (8 - left) ≤ 2 ^ m = pow-le-pow_right (omega arith) more in
                let is : 2 ^ suc (8 - left) ≡ P * 2 = pow-suc 2 (8 - left) in
                let first : P ≤ b = omega arith in
                let whole : P * K ≤ b * K = mul-le-mul_right K first in
                absurd (omega arith)
            | inr le ↦ le
          ],
    )

zeros_more : (left b : ℕ) (bytes : List ℕ) → 8 ≤ left → b ≡ 0 → BeginsWithZeros (left - 8) bytes ↔ BeginsWithZeros left (b ∷ bytes)
unfolding BeginsWithZeros
zeros_more left b bytes many none =
    let e : 8 * suc (length bytes) - left ≡ 8 * length bytes - (left - 8) = omega arith in
    let z : b * 256 ^ length bytes + number_of bytes ≡ number_of bytes = rw none (omega arith) in
    (λ h. rw (z, e) h, λ h. rw (z, e) at h)

-- the same of what is left of a list from place i on
AllBytes-drop : (s : List ℕ) (i : ℕ) → AllBytes s → AllBytes (drop i s)
AllBytes-drop s i small j = rw (get_or-drop i s j 0) (small (i + j))

zeros_here : (s : List ℕ) (i left : ℕ) → i < length s → AllBytes s → left ≤ 8
    → (left ≤ count_leading_zeros 8 (get_or s i 0)) ↔ BeginsWithZeros left (drop i s)
zeros_here s i left lt small few =
    let e = drop_more s i 0 lt in
    let all = subst AllBytes e (AllBytes-drop s i small) in
    rw e (zeros_last left (get_or s i 0) (drop (i + 1) s) few all)

zeros_next : (s : List ℕ) (i left : ℕ) → i < length s → 8 ≤ left → get_or s i 0 ≡ 0
    → BeginsWithZeros (left - 8) (drop (i + 1) s) ↔ BeginsWithZeros left (drop i s)
zeros_next s i left lt many none =
    rw (drop_more s i 0 lt) (zeros_more left (get_or s i 0) (drop (i + 1) s) many none)

-- a byte that isn't 0 has fewer than 8
zeros_few : (b : ℕ) → b < 256 → b ≢ 0 → count_leading_zeros 8 b < 8
zeros_few b small some =
    let top = leading_length 8 b small in
    let m = top.0 in
    let sum_is = top.1 in
    let low : b < 2 ^ m = top.2 in
    elim (cases_lt (count_leading_zeros 8 b) 8) [
      | inl lt ↦ lt
      | inr ge ↦ (let none : m ≡ 0 = omega arith in let one : b < 2 ^ 0 = subst (λ (n : ℕ). b < 2 ^ n) none low in absurd (omega arith))
    ]

-- that many zero bits were passed: the bits of the list from there on are those of what is left
abbrev pub Passed : List ℕ → ℕ → ℕ → Type 0
Passed s bits i = (n : ℕ) → bits ≤ n → BeginsWithZeros (n - bits) (drop i s) ↔ BeginsWithZeros n s

pub zeros_step : (s : List ℕ) (bits i : ℕ) → i < length s → get_or s i 0 ≡ 0 → Passed s bits i → Passed s (bits + 8) (i + 1)
zeros_step s bits i lt none from n le =
    let e : n - (bits + 8) ≡ n - bits - 8 = omega arith in
    let step = zeros_next s i (n - bits) lt (omega arith) none in
    let here = from n (omega arith) in
    (λ z. here.0 (step.0 (subst (λ (m : ℕ). BeginsWithZeros m (drop (i + 1) s)) e z)), λ z. subst (λ (m : ℕ). BeginsWithZeros m (drop (i + 1) s)) (sym e) (step.1 (here.1 z)))

pub zeros_upto : (s : List ℕ) (bits i : ℕ) → i < length s → AllBytes s → get_or s i 0 ≢ 0 → Passed s bits i → BeginsWithZeros (bits + count_leading_zeros 8 (get_or s i 0)) s
zeros_upto s bits i lt small some from =
    let z = count_leading_zeros 8 (get_or s i 0) in
    let few : z < 8 = zeros_few (get_or s i 0) (small i) some in
    let e : bits + z - bits ≡ z = omega arith in
    (from (bits + z) (omega arith)).0 (subst (λ (m : ℕ). BeginsWithZeros m (drop i s)) (sym e) ((zeros_here s i z lt small (omega arith)).0 (omega arith)))

pub zeros_end : (s : List ℕ) (bits i : ℕ) → i < length s → AllBytes s → get_or s i 0 ≢ 0 → Passed s bits i → BeginsWithZeros (bits + count_leading_zeros 8 (get_or s i 0) + 1) s → ⊥
zeros_end s bits i lt small some from h =
    let z = count_leading_zeros 8 (get_or s i 0) in
    let few : z < 8 = zeros_few (get_or s i 0) (small i) some in
    let e : bits + z + 1 - bits ≡ z + 1 = omega arith in
    let more : z + 1 ≤ z = (zeros_here s i (z + 1) lt small (omega arith)).1 (subst (λ (m : ℕ). BeginsWithZeros m (drop i s)) e ((from (bits + z + 1) (omega arith)).1 h)) in
    absurd (omega arith)

pub zeros_whole : (s : List ℕ) (bits i : ℕ) → length s ≤ i → Passed s bits i → BeginsWithZeros bits s
zeros_whole s bits i past from = (from bits (omega arith)).0 (rw (drop_all i s past) (zeros_none (bits - bits)))
