use Rattle.std.proofs.Common.{refl, subst}
use Rattle.path_worker.specs.Hand.{Hand}
use Rattle.path_worker.specs.Burst.{DidOne}
use Rattle.path_worker.proofs.Bursts.{did_note, did_settle}
use Rattle.path_worker.proofs.worker.Worker.step.Goals as goal

pub returns-in-Alive-clause-done : goal.returns-in-Alive-clause-done
returns-in-Alive-clause-done g c =
    let old : Hand = record { path = c.self.inside.path; book = c.self.inside.book; table = c.self.inside.table; policy = c.self.inside.policy } in
    let mid : Hand = record { path = c.self.inside.path; book = c.pull.new.pass; table = c.self.inside.table; policy = c.self.inside.policy } in
    let now = c.in_ok-note-in-Alive.ensures in
    subst (λ h. DidOne h c.note.new.self) c.self.view_is (did_note old mid c.note.new.self c.in-Alive.contact c.pull.ensures.role c.in-Alive.ensures.mine refl now.noted now.told)

pub returns-in-Report-clause-done : goal.returns-in-Report-clause-done
returns-in-Report-clause-done g c =
    let old : Hand = record { path = c.self.inside.path; book = c.self.inside.book; table = c.self.inside.table; policy = c.self.inside.policy } in
    let mid : Hand = record { path = c.self.inside.path; book = c.pull.new.pass; table = c.self.inside.table; policy = c.self.inside.policy } in
    subst (λ h. DidOne h c.settle.new.self) c.self.view_is (did_settle old mid c.settle.new.self c.in-Report.report c.pull.ensures.role c.in-Report.ensures.mine refl c.settle.ensures.settled c.settle.ensures.table)
