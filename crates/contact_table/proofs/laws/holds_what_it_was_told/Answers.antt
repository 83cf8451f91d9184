use Rattle.contact_table.proofs.Holding.{holds, since-limited, since-new}
use Rattle.contact_table.proofs.laws.holds_what_it_was_told.Goals as goal

pub returns : goal.returns
returns c = record { held = holds; since_new = since-new; since_limited = since-limited }
