use Rattle.std.proofs.Common.{◌≡◌, ℕ, ◌<◌, length, get_or}
use Rattle.std.specs.Int.Bits.{bit_xor}
use Rattle.kad_base.proofs.bits.xor.Given as goal

abbrev pub invariant-loop-i : goal.invariant-loop-i
invariant-loop-i l = record {
  long : length l.bytes ≡ 20;
  each : (k : ℕ) → k < l.i → get_or l.bytes k 0 ≡ bit_xor (get_or l.a k 0) (get_or l.b k 0);
}
