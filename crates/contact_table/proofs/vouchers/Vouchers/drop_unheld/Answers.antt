use Rattle.std.proofs.Common.{sym, ap, ◌∙◌}
use Rattle.contact_table.specs.Told.{held_by}
use Rattle.contact_table.specs.Vouched.{of_held}
use Rattle.contact_table.proofs.Vouching.{forgets, stands-absent, stands-held}
use Rattle.contact_table.proofs.vouchers.Vouchers.drop_unheld.Goals as goal

pub returns-then-holds-clause-stands : goal.returns-then-holds-clause-stands
returns-then-holds-clause-stands c = λ after new.
    stands-held (held_by c.args.buckets.now.rows c.args.siblings.now.list) after c.args.contact.now new c.args.self.now (sym c.holds.ensures ∙ c.if-holds.true)

pub returns-clause-stands : goal.returns-clause-stands
returns-clause-stands c = λ after new.
    let held = held_by c.args.buckets.now.rows c.args.siblings.now.list in
    stands-absent held after c.args.contact.now new c.remove.new.self c.remove.ensures.gone
    ∙ ap (λ es. of_held after (of_held held es)) c.remove.ensures.entries
    ∙ ap (of_held after) (forgets held c.args.contact.now c.args.self.now (sym c.holds.ensures ∙ c.if-holds.false))

pub returns-clause-same : goal.returns-clause-same
returns-clause-same c =
    let held = held_by c.args.buckets.now.rows c.args.siblings.now.list in
    ap (of_held held) c.remove.ensures.entries ∙ forgets held c.args.contact.now c.args.self.now (sym c.holds.ensures ∙ c.if-holds.false)
