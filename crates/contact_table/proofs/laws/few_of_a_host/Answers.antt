use Rattle.contact_table.proofs.Few.{few-of-a-host}
use Rattle.contact_table.proofs.laws.few_of_a_host.Goals as goal

pub returns : goal.returns
returns c = few-of-a-host
