use Rattle.std.proofs.Common.{◌-◌, ◌≤◌, ◌≡◌, length}
use Rattle.kad_bencode.proofs.distinct.leave_front.Given as goal

abbrev pub invariant-loop-i : goal.invariant-loop-i
invariant-loop-i l = record { fewer : l.kept ≤ l.i; within : l.i ≤ length l.order; same : length l.order ≡ length l.initial.order }

abbrev pub decreases-loop-i : goal.decreases-loop-i
decreases-loop-i l = length l.order - l.i
