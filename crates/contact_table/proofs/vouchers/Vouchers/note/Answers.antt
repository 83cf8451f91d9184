use Rattle.std.proofs.Common.{sym, ap, ◌∙◌}
use Rattle.contact_table.specs.Told.{held_by}
use Rattle.contact_table.specs.Vouched.{of_held}
use Rattle.contact_table.proofs.Vouching.{had, had-none, held-then, stands-held}
use Rattle.contact_table.proofs.vouchers.Vouchers.note.Goals as goal

pub returns-then-has-clause-stands : goal.returns-then-has-clause-stands
returns-then-has-clause-stands c = λ after new.
    let held = held_by c.args.buckets.now.rows c.args.siblings.now.list in
    let x = c.args.contact.now in
    let es = c.args.self.now in
    let is = sym c.has.ensures ∙ c.if-has.true in
    stands-held held after x new es (held-then held es x is) ∙ sym (ap (of_held after) (had x c.args.proof (of_held held es) is))

pub returns-clause-stands : goal.returns-clause-stands
returns-clause-stands c = λ after new.
    let held = held_by c.args.buckets.now.rows c.args.siblings.now.list in
    c.in-Ok.ensures.stands after new ∙ sym (ap (of_held after) (had-none c.args.contact.now c.args.proof (of_held held c.args.self.now) (sym c.has.ensures ∙ c.if-has.false)))
