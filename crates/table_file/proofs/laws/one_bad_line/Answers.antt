use Rattle.table_file.proofs.BadLine.{bad_once}
use Rattle.table_file.proofs.laws.one_bad_line.Goals as goal

pub returns-clause-one : goal.returns-clause-one
returns-clause-one c = bad_once

pub returns-clause-alone : goal.returns-clause-alone
returns-clause-alone c = λ bytes saved n s f. f.unread saved s
