use Rattle.std.proofs.Common.{◌≡◌, ◌↔◌, ℕ, ◌+◌, ◌<◌, ◌≤◌, min, List, length, leb-true, inl, inr, arith}
use Rattle.std.proofs.lemmas.Bool.{le-leb, cases_lt}
use Rattle.kad_base.specs.Bits.{BeginsWithZeros}
use Rattle.kad_base.proofs.Zeros.{zeros_fewer}
use Rattle.id_puzzles.proofs.bits.begins_with_zeros.Goals as goal

-- 20 bytes that begin with n zero bits and no more begin with as many as are asked for where n is no fewer
zeros_asked : (bytes : List ℕ) (n bits most : ℕ) → length bytes ≡ 20 → n ≤ 160 → BeginsWithZeros n bytes → (n < 160 → BeginsWithZeros (n + 1) bytes → ⊥)
    → most ≡ min bits 160 → (most ≤ n) ↔ BeginsWithZeros bits bytes
zeros_asked bytes n bits most long within zeros no_more is = (
  λ le. zeros_fewer bytes bits n (omega arith) zeros,
  λ asked.
      elim (cases_lt n most) [
        | inl lt ↦ absurd (no_more (omega arith) (zeros_fewer bytes (n + 1) bits (omega arith) asked))
        | inr le ↦ le
      ],
)

pub returns : goal.returns
returns c =
    let zeros = c.leading_zeros.ensures in
    let h = zeros_asked c.args.digest.now c.leading_zeros.result c.args.bits c.min.result c.told-digest zeros.within zeros.zeros zeros.no_more c.min.ensures in
    (λ e. h.0 (leb-true _ _ e), λ z. le-leb _ _ (h.1 z))
