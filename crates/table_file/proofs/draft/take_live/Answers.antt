use Rattle.std.proofs.Common.{arith}
use Rattle.table_file.proofs.Chain.{live_behind_spare, live_unfit}
use Rattle.table_file.proofs.draft.take_live.Goals as goal

pub returns-then-len-gt0-clause-misplaced : goal.returns-then-len-gt0-clause-misplaced
returns-then-len-gt0-clause-misplaced c = λ e. rw c.in-InRow.is (live_behind_spare c.in-InRow.head c.in-InRow.rows c.in-InRow.row c.args.entry (omega arith))

pub returns : goal.returns
returns c = record { ok = tt; misplaced = λ e. live_unfit c.args.draft c.args.entry c.requires c.in_default.not-InRow }
