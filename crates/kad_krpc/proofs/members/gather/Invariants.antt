use Rattle.std.proofs.Common.{length}
use Rattle.kad_bencode.specs.Keys.{value_of}
use Rattle.kad_krpc.proofs.members.gather.Given as goal

-- what the slots are in the end, by the pairs that are left
abbrev pub invariant-loop-key : goal.invariant-loop-key
invariant-loop-key g l = (end : g.row.S.Denot) → g.S.Slots.filled l.filled (value_of l.pairs) end → g.S.Slots.filled l.fn.slots (value_of l.fn.pairs) end

abbrev pub decreases-loop-key : goal.decreases-loop-key
decreases-loop-key g l = length l.pairs
