use Rattle.table_file.proofs.LineSpelling.{end_alone, end_line}
use Rattle.std.proofs.Common.{true≢false, sym, ◌∙◌}
use Rattle.table_file.proofs.lines.read_word.Goals as goal

pub returns-then-is_same : goal.returns-then-is_same
returns-then-is_same c = end_line c.args.line.now (c.is_same.ensures.0 c.if-is_same.true)

pub returns : goal.returns
returns c = λ l s. end_alone c.args.line.now l c.requires (λ e. true≢false (sym (c.is_same.ensures.1 e) ∙ c.if-is_same.false)) s
