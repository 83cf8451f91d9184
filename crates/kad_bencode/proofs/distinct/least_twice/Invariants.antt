use Rattle.std.proofs.Common.{◌-◌, ◌≤◌, length}
use Rattle.kad_bencode.proofs.distinct.least_twice.Given as goal

abbrev pub invariant-loop-i : goal.invariant-loop-i
invariant-loop-i l = l.least ≤ length l.places

abbrev pub decreases-loop-i : goal.decreases-loop-i
decreases-loop-i l = length l.order - l.i
