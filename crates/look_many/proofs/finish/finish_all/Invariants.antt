use Rattle.std.proofs.Common.{length}
use Rattle.look_many.specs.ManyLooked.{AreSent}
use Rattle.look_many.proofs.Seating.{Finishing}
use Rattle.look_many.proofs.finish.finish_all.Given as goal

abbrev pub invariant-loop-done : goal.invariant-loop-done
invariant-loop-done l = record {
  found : Finishing l.fn.all.items l.all.items l.ones;
  sent : AreSent l.said 0 l.ones;
}

abbrev pub decreases-loop-done : goal.decreases-loop-done
decreases-loop-done l = length l.all.items
