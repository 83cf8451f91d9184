use Rattle.lookup_crowd.specs.inner.SettleSteps.{SettlesOn}
use Rattle.lookup_crowd.proofs.settle.settle_path.Given as goal

abbrev pub invariant-loop : goal.invariant-loop
invariant-loop g l = SettlesOn l.path l.fn.seeker l.seeker
