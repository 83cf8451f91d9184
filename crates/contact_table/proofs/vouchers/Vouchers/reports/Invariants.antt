use Rattle.std.proofs.Common.{◌≡◌, take}
use Rattle.contact_table.specs.Vouched.{reports_of}
use Rattle.contact_table.proofs.vouchers.Vouchers.reports.Given as goal

abbrev pub invariant-loop-contact : goal.invariant-loop-contact
invariant-loop-contact l = l.reports.items ≡ reports_of l.self (take l.contact-index l.contacts)
