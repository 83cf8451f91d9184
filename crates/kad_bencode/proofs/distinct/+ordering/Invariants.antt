use Rattle.std.proofs.Common.{◌+◌, ◌-◌, ◌*◌, ◌<◌, ◌≤◌, length}
use Rattle.kad_bencode.proofs.distinct.+ordering.Given as goal

-- the levels that are left
abbrev pub decreases-order_row : goal.decreases-order_row
decreases-order_row l = 2 * (8 - l.level)

abbrev pub decreases-order_alike : goal.decreases-order_alike
decreases-order_alike l = 2 * (8 - l.level) + 1

abbrev pub decreases-order_row-loop-i : goal.decreases-order_row-loop-i
decreases-order_row-loop-i l = length l.row - l.i

abbrev pub invariant-order_row-loop-end : goal.invariant-order_row-loop-end
invariant-order_row-loop-end l = (l.i < l.end) × (l.end ≤ length l.row)

abbrev pub decreases-order_row-loop-end : goal.decreases-order_row-loop-end
decreases-order_row-loop-end l = length l.row - l.end
