-- How many leading bits two identifiers share.
use Rattle.std.proofs.Common.{◌≡◌, ℕ, ◌+◌, ◌-◌, ◌*◌, ◌^◌, ◌<◌, ◌≤◌, List, length, true, false, sym, ap, ◌∙◌, inl, inr, arith}
use Rattle.std.specs.Prelude.{filter}
use Rattle.std.proofs.Math.Nat.{pow-le-pow_right}
use Rattle.std.proofs.lemmas.Bool.{lt-ltb, le-ltb, cases_lt}
use Rattle.kad_base.specs.declared.types.Id.{Id}
use Rattle.kad_base.specs.Bits.{xor_bytes, number_of, BeginsWithZeros}
use Rattle.fake_net.specs.Network.{begins, shared, numbers}
use Rattle.fake_net.proofs.Numbering.{front_passes, whole_passes}

begins_from : (bytes : List ℕ) (bits few : ℕ) → few ≤ bits → BeginsWithZeros bits bytes → begins bytes few ≡ true
unfolding BeginsWithZeros begins
begins_from bytes bits few le below =
    let less : 8 * length bytes - bits ≤ 8 * length bytes - few = omega arith in
    let bound : 2 ^ (8 * length bytes - bits) ≤ 2 ^ (8 * length bytes - few) = pow-le-pow_right (omega arith) less in
    lt-ltb (number_of bytes) (2 ^ (8 * length bytes - few)) (omega arith)

begins_not : (bytes : List ℕ) (bits many : ℕ) → bits ≤ many → (BeginsWithZeros bits bytes → ⊥) → begins bytes many ≡ false
unfolding BeginsWithZeros begins
begins_not bytes bits many le not =
    let less : 8 * length bytes - many ≤ 8 * length bytes - bits = omega arith in
    let bound : 2 ^ (8 * length bytes - many) ≤ 2 ^ (8 * length bytes - bits) = pow-le-pow_right (omega arith) less in
    elim (cases_lt (number_of bytes) (2 ^ (8 * length bytes - bits))) [
      | inl lt ↦ absurd (not lt)
      | inr ge ↦ le-ltb (number_of bytes) (2 ^ (8 * length bytes - many)) (omega arith)
    ]

-- of the numbers 1 to n, those of bits that the bytes begin with
counted : (bytes : List ℕ) (n bits : ℕ) → bits ≤ n → BeginsWithZeros bits bytes → (bits < n → BeginsWithZeros (bits + 1) bytes → ⊥)
    → bits ≡ length (filter (λ m. begins bytes (m + 1)) (numbers n))
counted bytes n bits le is not =
    elim (cases_lt bits n) [
      | inl lt ↦
          (let e : bits + (n - bits) ≡ n = omega arith in
          sym (front_passes (λ m. begins bytes (m + 1)) bits (n - bits)
          (λ m below. begins_from bytes bits (m + 1) (omega arith) is)
          (λ m above. begins_not bytes (bits + 1) (m + 1) (omega arith) (not lt)))
          ∙ ap (λ (k : ℕ). length (filter (λ m. begins bytes (m + 1)) (numbers k))) e)
      | inr ge ↦
          (let e : bits ≡ n = omega arith in
          sym (whole_passes (λ m. begins bytes (m + 1)) bits (λ m below. begins_from bytes bits (m + 1) (omega arith) is))
          ∙ ap (λ (k : ℕ). length (filter (λ m. begins bytes (m + 1)) (numbers k))) e)
    ]

pub shared_is : (a b : Id) (bits : ℕ) → bits ≤ 160 → BeginsWithZeros bits (xor_bytes a.0 b.0)
    → (bits < 160 → BeginsWithZeros (bits + 1) (xor_bytes a.0 b.0) → ⊥) → bits ≡ shared a b
unfolding shared
shared_is a b bits le is not = counted (xor_bytes a.0 b.0) 160 bits le is not
