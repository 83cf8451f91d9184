use Rattle.std.proofs.Common.{refl}
use Rattle.lookup_crowd.specs.inner.ManySteps.{is_taken}
use Rattle.lookup_crowd.proofs.receive.handle.Goals as goal

pub returns-in-Ok-true-clause-ok : goal.returns-in-Ok-true-clause-ok
returns-in-Ok-true-clause-ok g c =
    let takes = rw c.in-Ok-true.field-0-test at c.in-Ok-true.ensures.ok in
    is_taken takes refl refl refl
