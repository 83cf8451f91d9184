use Rattle.contact_table.proofs.Naming.{names-none}
use Rattle.contact_table.proofs.laws.names_none_of_none.Goals as goal

pub returns : goal.returns
returns c = names-none
