use Rattle.std.proofs.Common.{take}
use Rattle.std.specs.List.{AllByRecursion}
use Rattle.lookup_crowd.specs.inner.ManySteps.{IsUnasked}
use Rattle.lookup_crowd.proofs.take.is_unasked.Given as goal

abbrev pub invariant-loop-seeker : goal.invariant-loop-seeker
invariant-loop-seeker l = AllByRecursion (IsUnasked l.from) (take l.seeker-index l.seekers)
