use Rattle.std.proofs.Common.{sym, ◌∙◌}
use Rattle.contact_table.specs.Told.{held_by}
use Rattle.contact_table.specs.Vouched.{noted}
use Rattle.contact_table.proofs.Determined.{table-seen}
use Rattle.contact_table.proofs.Kept.{none-else, seats-seen, seen-replies}
use Rattle.contact_table.proofs.table.Table.vouched.Goals as goal

pub returns-in-Ok-take_in-clause-step : goal.returns-in-Ok-take_in-clause-step
returns-in-Ok-take_in-clause-step c =
    seen-replies c.self.inside.buckets c.self.inside.siblings c.take_in.new.buckets c.take_in.new.siblings c.self.inside.per_address _ c.args.self.now c.args.contact c.in-Ok-take_in.seen c.self.view_is c.sound.ensures.rows c.in-Ok-take_in.ensures.ok (c.admit.ensures.free c.in-Admitted.is)

pub returns-in-Ok-take_in-clause-after : goal.returns-in-Ok-take_in-clause-after
returns-in-Ok-take_in-clause-after c =
    let t = c.self.inside.buckets in
    let s = c.self.inside.siblings in
    let t' = c.take_in.new.buckets in
    let s' = c.take_in.new.siblings in
    table-seen t s t' s' c.args.self.now c.self.inside.per_address c.args.contact c.in-Ok-take_in.seen (noted c.args.contact c.args.proof) c.self.inside.vouchers c.note.new.self c.self.view_is c.self.invariant.0 c.sound.ensures.rows c.in-Ok-take_in.ensures.ok
    (c.in-Ok.ensures.stands (held_by t'.rows s'.list) (none-else t s t' s' c.args.contact c.in-Ok-take_in.seen c.self.invariant.0 c.sound.ensures.rows c.in-Ok-take_in.ensures.ok))

pub invariant_of-self-in-Ok-take_in : goal.invariant_of-self-in-Ok-take_in
invariant_of-self-in-Ok-take_in c =
    let taken = c.in-Ok-take_in.ensures.ok in (
      taken.beside ∙ c.self.invariant.0 ∙ sym taken.own,
      seats-seen c.self.inside.buckets c.self.inside.siblings c.take_in.new.buckets c.take_in.new.siblings c.self.inside.per_address c.admit.new.seats c.args.contact c.in-Ok-take_in.seen c.self.invariant.0 c.sound.ensures.rows taken (c.admit.ensures.seated c.in-Admitted.is) c.admit.ensures.seats,
    )
