use Rattle.std.proofs.Common.{length, ◌-◌}
use Rattle.kad_bencode.specs.Machine.{DigitsSoFar}
use Rattle.kad_bencode.proofs.scan.digits_from.Given as goal

abbrev pub invariant-loop-next : goal.invariant-loop-next
invariant-loop-next l = DigitsSoFar l.bytes l.first l.number l.next

abbrev pub decreases-loop-next : goal.decreases-loop-next
decreases-loop-next l = length l.bytes - l.next
