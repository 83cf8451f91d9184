use Rattle.std.proofs.Common.{◌-◌, ◌≤◌}
use Rattle.kad_bencode.specs.Filing.{HasAll}
use Rattle.kad_bencode.proofs.distinct.has_all.Given as goal

-- those that were looked for are there
abbrev pub invariant-loop-i : goal.invariant-loop-i
invariant-loop-i l = record { within : l.i ≤ l.count; all : HasAll l.order l.i }

abbrev pub decreases-loop-i : goal.decreases-loop-i
decreases-loop-i l = l.count - l.i
