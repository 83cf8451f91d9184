use Rattle.table_file.proofs.Chain.{sibling_unfit}
use Rattle.table_file.proofs.draft.take_sibling.Goals as goal

pub returns-clause-misplaced : goal.returns-clause-misplaced
returns-clause-misplaced c = λ e. sibling_unfit c.args.draft c.args.contact c.in_default.not-Started c.in_default.not-InRow c.in_default.not-InSiblings
