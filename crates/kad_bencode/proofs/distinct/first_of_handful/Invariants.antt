use Rattle.std.proofs.Common.{◌-◌, ◌≤◌, length, take}
use Rattle.kad_bencode.specs.Filing.{Differ}
use Rattle.kad_bencode.proofs.distinct.first_of_handful.Given as goal

-- the keys so far differ
abbrev pub invariant-loop-i : goal.invariant-loop-i
invariant-loop-i l = record { within : l.i ≤ length l.places; differ : Differ l.bytes (take l.i l.places) }

abbrev pub decreases-loop-i : goal.decreases-loop-i
decreases-loop-i l = length l.places - l.i
