use Rattle.std.proofs.Common.{sym, ◌∙◌}
use Rattle.contact_table.specs.Told.{held_by}
use Rattle.contact_table.specs.Vouched.{Proofs}
use Rattle.contact_table.proofs.Determined.{table-seen, table-same}
use Rattle.contact_table.proofs.Kept.{none-else, seats-seen, seen-replies}
use Rattle.contact_table.proofs.table.Table.seen.Goals as goal

pub returns-clause-step : goal.returns-clause-step
returns-clause-step c =
    seen-replies c.self.inside.buckets c.self.inside.siblings c.take_in.new.buckets c.take_in.new.siblings c.self.inside.per_address _ c.args.self.now c.args.contact c.in-Ok.seen c.self.view_is c.sound.ensures.rows c.in-Ok.ensures.ok (c.admit.ensures.free c.in-Admitted.is)

pub returns-clause-after : goal.returns-clause-after
returns-clause-after c =
    let t = c.self.inside.buckets in
    let s = c.self.inside.siblings in
    let t' = c.take_in.new.buckets in
    let s' = c.take_in.new.siblings in
    table-seen t s t' s' c.args.self.now c.self.inside.per_address c.args.contact c.in-Ok.seen (λ (v : Proofs). v) c.self.inside.vouchers c.drop_unheld.new.self c.self.view_is c.self.invariant.0 c.sound.ensures.rows c.in-Ok.ensures.ok
    (c.drop_unheld.ensures.stands (held_by t'.rows s'.list) (none-else t s t' s' c.args.contact c.in-Ok.seen c.self.invariant.0 c.sound.ensures.rows c.in-Ok.ensures.ok))

pub invariant_of-self-2 : goal.invariant_of-self-2
invariant_of-self-2 c =
    let taken = c.in-Ok.ensures.ok in (
      taken.beside ∙ c.self.invariant.0 ∙ sym taken.own,
      seats-seen c.self.inside.buckets c.self.inside.siblings c.take_in.new.buckets c.take_in.new.siblings c.self.inside.per_address c.admit.new.seats c.args.contact c.in-Ok.seen c.self.invariant.0 c.sound.ensures.rows taken (c.admit.ensures.seated c.in-Admitted.is) c.admit.ensures.seats,
    )

pub returns-in-Err-clause-after : goal.returns-in-Err-clause-after
returns-in-Err-clause-after c =
    table-same c.self.inside.buckets c.take_in.new.buckets c.self.inside.siblings c.take_in.new.siblings c.args.self.now c.self.inside.per_address c.self.inside.vouchers c.drop_unheld.new.self c.self.view_is c.in-Err.ensures.buckets c.in-Err.ensures.siblings c.drop_unheld.ensures.same
