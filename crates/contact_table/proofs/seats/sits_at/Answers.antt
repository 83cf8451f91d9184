use Rattle.std.proofs.Common.{sym, ◌∙◌}
use Rattle.contact_table.proofs.Seating.{sits-exact}
use Rattle.contact_table.proofs.seats.sits_at.Goals as goal

pub returns-in-Some : goal.returns-in-Some
returns-in-Some c = sits-exact _ c.args.contact.now c.in-Some.other c.is_same.result (sym c.sitter_of.ensures ∙ c.in-Some.is) c.is_same.ensures
