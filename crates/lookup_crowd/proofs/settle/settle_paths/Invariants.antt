use Rattle.lookup_crowd.specs.inner.SettleSteps.{SettlesTo}
use Rattle.lookup_crowd.proofs.settle.settle_paths.Given as goal

abbrev pub invariant-loop-path : goal.invariant-loop-path
invariant-loop-path g l = SettlesTo l.path l.fn.seeker l.seeker
