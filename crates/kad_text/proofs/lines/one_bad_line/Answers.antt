use Rattle.kad_text.specs.Lines.{lines}
use Rattle.kad_text.proofs.TextLaws.{bad_once, read_or_bad}
use Rattle.kad_text.proofs.lines.one_bad_line.Goals as goal

pub returns-clause-one : goal.returns-clause-one
returns-clause-one c = λ input m n f g. bad_once (lines input) m n f g

pub returns-clause-alone : goal.returns-clause-alone
returns-clause-alone c = λ input m reports f r. read_or_bad (lines input) reports m r f
