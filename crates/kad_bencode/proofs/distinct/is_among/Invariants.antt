use Rattle.std.proofs.Common.{◌-◌, ◌≤◌, length, take}
use Rattle.kad_bencode.specs.Filing.{IsNowhere}
use Rattle.kad_bencode.proofs.distinct.is_among.Given as goal

-- it isn't at those that were looked at
abbrev pub invariant-loop-i : goal.invariant-loop-i
invariant-loop-i l = record { within : l.i ≤ length l.places; nowhere : IsNowhere l.bytes (take l.i l.places) l.key }

abbrev pub decreases-loop-i : goal.decreases-loop-i
decreases-loop-i l = length l.places - l.i
