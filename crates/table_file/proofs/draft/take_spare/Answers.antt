use Rattle.table_file.proofs.Chain.{spare_unfit}
use Rattle.table_file.proofs.draft.take_spare.Goals as goal

pub returns : goal.returns
returns c = record { ok = tt; misplaced = λ e. spare_unfit c.args.draft c.args.contact c.requires c.in_default.not-InRow }
