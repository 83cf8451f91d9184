use Rattle.kad_text.specs.Lines.{lines}
use Rattle.kad_text.proofs.TextLaws.{reading_once}
use Rattle.kad_text.proofs.lines.one_reading.Goals as goal

pub returns : goal.returns
returns c = λ input a b s t. reading_once (lines input) a b s t
