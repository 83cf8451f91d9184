use Rattle.std.proofs.Common.{ap, ◌∙◌}
use Rattle.contact_table.specs.Vouched.{reports_of}
use Rattle.contact_table.proofs.Kept.{named}
use Rattle.contact_table.proofs.table.Table.reports.Goals as goal

pub returns : goal.returns
returns c =
    c.in_ok-reports.ensures
    ∙ ap (reports_of c.self.inside.vouchers) (c.as_slice.ensures ∙ c.in_ok-contacts.ensures)
    ∙ named c.self.inside.buckets c.self.inside.siblings.list c.self.inside.per_address c.self.inside.vouchers c.args.self.now c.args.target.now c.args.n c.self.view_is
