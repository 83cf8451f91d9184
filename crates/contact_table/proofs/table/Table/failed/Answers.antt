use Rattle.std.proofs.Common.{sym, subst, ◌∙◌}
use Rattle.bucket_tree.specs.BucketSteps.{FailedStep}
use Rattle.contact_table.specs.RowsAfter.{failed_rows}
use Rattle.contact_table.specs.TableState.{TableState}
use Rattle.contact_table.proofs.Determined.{failed-is, table-failed}
use Rattle.contact_table.proofs.Kept.{seats-failed, stands-failed}
use Rattle.contact_table.proofs.table.Table.failed.Goals as goal

pub returns-clause-step : goal.returns-clause-step
returns-clause-step c =
    let t = c.self.inside.buckets in
    let x = c.args.contact.now in
    let gone = c.failed-gone.result in
    subst (λ (s : TableState). FailedStep x s.rows gone (failed_rows gone x s.rows)) c.self.view_is
    (subst (FailedStep x t.rows gone) (failed-is t.own t.k t.b x t.rows c.failed-gone.new.self.rows gone c.sound.ensures.rows c.failed-gone.ensures.step) c.failed-gone.ensures.step)

pub returns-clause-after : goal.returns-clause-after
returns-clause-after c =
    let t = c.self.inside.buckets in
    table-failed t c.self.inside.siblings c.failed-gone.new.self c.note_failed.new.siblings c.args.self.now c.self.inside.per_address c.args.contact.now c.failed-gone.result c.self.inside.vouchers c.self.view_is c.self.invariant.0 c.sound.ensures.rows c.failed-gone.ensures.step c.failed-gone.ensures.own c.failed-gone.ensures.k c.failed-gone.ensures.b c.note_failed.ensures.list
    (stands-failed t c.self.inside.siblings c.failed-gone.new.self.rows c.note_failed.new.siblings.list c.args.contact.now c.failed-gone.result c.self.inside.vouchers c.sound.ensures.rows c.failed-gone.ensures.step c.note_failed.ensures.list)

pub invariant_of-self : goal.invariant_of-self
invariant_of-self c = (
  c.note_failed.ensures.own ∙ c.self.invariant.0 ∙ sym c.failed-gone.ensures.own,
  seats-failed c.self.inside.buckets c.self.inside.siblings c.failed-gone.new.self.rows c.note_failed.new.siblings.list c.self.inside.per_address c.self.inside.seats c.args.contact.now c.failed-gone.result c.sound.ensures.rows c.failed-gone.ensures.step c.note_failed.ensures.list c.self.invariant.1,
)
