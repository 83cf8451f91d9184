use Rattle.table_file.proofs.Chain.{row_unfit}
use Rattle.table_file.proofs.draft.take_row.Goals as goal

pub returns : goal.returns
returns c = record { ok = tt; misplaced = λ e. row_unfit c.args.draft c.args.prefix c.requires c.in_default.not-Started c.in_default.not-InRow }
