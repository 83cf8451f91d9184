use Rattle.std.proofs.Common.{◌-◌, ◌≤◌, length}
use Rattle.kad_bencode.proofs.Filing.{Chain}
use Rattle.kad_bencode.proofs.distinct.ascends.Given as goal

-- the keys so far ascend
abbrev pub invariant-loop-i : goal.invariant-loop-i
invariant-loop-i l = record { within : l.i ≤ length l.order; chain : Chain l.bytes l.places l.order l.i l.last }

abbrev pub decreases-loop-i : goal.decreases-loop-i
decreases-loop-i l = length l.order - l.i
