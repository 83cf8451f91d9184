use Rattle.kad_text.proofs.LineSpelling.{not_text}
use Rattle.kad_text.proofs.lines.read_line.Goals as goal

pub returns-in_default : goal.returns-in_default
returns-in_default c =
    not_text c.args.line.now c.without_return-line.result.now c.without_return-line.ensures c.in_default.ensures.cases.0 c.if-is_empty.ensures c.if-line-eq35.false
