use Rattle.std.proofs.Common.{◌≡◌, ◌*◌}
use Rattle.kad_base.proofs.Zeros.{Passed}
use Rattle.kad_base.proofs.bits.leading_zeros.Given as goal

abbrev pub invariant-loop-byte : goal.invariant-loop-byte
invariant-loop-byte l = record { eight : l.bits ≡ 8 * l.byte-index; passed : Passed l.bytes l.bits l.byte-index }
