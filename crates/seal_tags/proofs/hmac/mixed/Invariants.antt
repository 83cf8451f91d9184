use Rattle.std.proofs.Common.{◌≡◌, ◌++◌, length, take, drop, map}
use Rattle.std.specs.Int.Bits.{bit_xor}
use Rattle.seal_tags.proofs.hmac.mixed.Given as goal

abbrev pub invariant-loop-i : goal.invariant-loop-i
invariant-loop-i l = record {
  long : length l.bytes ≡ 64;
  each : l.bytes ≡ map (λ b. bit_xor b l.pad) (take l.i l.block) ++ drop l.i l.block;
}
