use Rattle.table_file.proofs.SavedOnce.{saved_once}
use Rattle.table_file.proofs.laws.one_saved.Goals as goal

pub returns : goal.returns
returns c = saved_once
