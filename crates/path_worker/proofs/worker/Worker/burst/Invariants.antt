use Rattle.path_worker.specs.Hand.{SameHand}
use Rattle.path_worker.specs.Burst.{Going}
use Rattle.path_worker.proofs.worker.Worker.burst.Given as goal

abbrev pub invariant-loop : goal.invariant-loop
invariant-loop g l = record {
  same : SameHand l.fn.self l.self;
  going : Going l.fn.self l.self l.count;
}
