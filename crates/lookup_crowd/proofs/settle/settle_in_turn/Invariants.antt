use Rattle.lookup_crowd.proofs.Settled.{SettlingTo}
use Rattle.lookup_crowd.proofs.settle.settle_in_turn.Given as goal

abbrev pub invariant-loop-i : goal.invariant-loop-i
invariant-loop-i g l = SettlingTo l.i l.fn.seekers l.seekers
