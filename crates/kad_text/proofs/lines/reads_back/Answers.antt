use Rattle.kad_text.proofs.TextLaws.{reads_back}
use Rattle.kad_text.proofs.lines.reads_back.Goals as goal

pub returns : goal.returns
returns c = reads_back
