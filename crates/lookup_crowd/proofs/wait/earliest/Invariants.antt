use Rattle.std.proofs.Common.{take}
use Rattle.lookup_crowd.specs.inner.Crowd.{queries_of}
use Rattle.lookup_crowd.specs.inner.ManySteps.{IsSoonest}
use Rattle.lookup_crowd.proofs.wait.earliest.Given as goal

abbrev pub invariant-loop-seeker : goal.invariant-loop-seeker
invariant-loop-seeker l = IsSoonest l.first (queries_of (take l.seeker-index l.seekers))
