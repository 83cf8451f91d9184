use Rattle.table_file.proofs.Chain.{end_unfit}
use Rattle.table_file.proofs.Drafting.{end_behind_row, end_behind_siblings, end_first}
use Rattle.table_file.proofs.draft.take_end.Goals as goal

pub returns-in-Started-clause-ok : goal.returns-in-Started-clause-ok
returns-in-Started-clause-ok c = (c.whole.ensures.sound, rw c.in-Started.is (end_first c.in-Started.head _ _ _ c.whole.ensures.lines c.new.ensures c.new-in-Started.ensures))

pub returns-in-InRow-clause-ok : goal.returns-in-InRow-clause-ok
returns-in-InRow-clause-ok c = (
  c.whole-in-InRow.ensures.sound,
  rw c.in-InRow.is (end_behind_row c.in-InRow.head c.in-InRow.rows _ c.in-InRow.row _ _ c.whole-in-InRow.ensures.lines c.in_ok-with_row-in-InRow.ensures c.new-in-InRow.ensures),
)

pub returns-in-InSiblings-clause-ok : goal.returns-in-InSiblings-clause-ok
returns-in-InSiblings-clause-ok c = (c.whole-in-InSiblings.ensures.sound, rw c.in-InSiblings.is (end_behind_siblings c.in-InSiblings.head c.in-InSiblings.rows c.in-InSiblings.siblings _ c.whole-in-InSiblings.ensures.lines))

pub returns-clause-misplaced : goal.returns-clause-misplaced
returns-clause-misplaced c = λ e. end_unfit c.args.draft c.in_default.not-Started c.in_default.not-InRow c.in_default.not-InSiblings
