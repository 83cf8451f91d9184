use Rattle.std.proofs.Common.{◌+◌, take, sym, subst}
use Rattle.std.specs.Prelude.{Option, ℕ}
use Rattle.lookup_crowd.specs.inner.Crowd.{queries_of}
use Rattle.lookup_crowd.specs.inner.ManySteps.{IsSoonest}
use Rattle.lookup_crowd.proofs.Waiting.{soonest_next}
use Rattle.lookup_crowd.proofs.wait.earliest.Goals as goal

pub loop-seeker-preserved : goal.loop-seeker-preserved
loop-seeker-preserved c =
    let k = c.seeker-item.result in
    subst (λ (o : Option ℕ). IsSoonest o (queries_of (take (c.loop-seeker.seeker-index + 1) c.args.seekers.now))) (sym c.sooner-first.ensures)
    (soonest_next c.loop-seeker.first c.earliest.result c.loop-seeker.seeker-index c.args.seekers.now k c.loop-seeker-test.true c.seeker-item.is c.loop-seeker.invariant c.earliest.ensures)
