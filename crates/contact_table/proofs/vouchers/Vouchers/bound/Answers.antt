use Rattle.std.proofs.Common.{ap, ◌∙◌}
use Rattle.contact_table.specs.Told.{held_by}
use Rattle.contact_table.specs.Vouched.{of_held}
use Rattle.contact_table.proofs.Vouching.{twice}
use Rattle.contact_table.proofs.vouchers.Vouchers.bound.Goals as goal

pub returns : goal.returns
returns c =
    let held = held_by c.args.buckets.now.rows c.args.siblings.now.list in
    ap (of_held held) c.sweep.ensures ∙ twice held c.args.self.now
