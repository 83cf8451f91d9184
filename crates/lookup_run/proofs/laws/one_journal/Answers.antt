use Rattle.lookup_run.proofs.Once.{rounds_once}
use Rattle.lookup_run.proofs.laws.one_journal.Goals as goal

pub returns : goal.returns
returns c g J K events some l m same h k = rounds_once g J K events some l m same h k
