use Rattle.table_file.proofs.LineSpelling.{is_row, row_line}
use Rattle.table_file.proofs.lines.read_row.Goals as goal

pub returns-in_err-prefix : goal.returns-in_err-prefix
returns-in_err-prefix c = rw c.from_residual.ensures (λ l s. let t = is_row _ l s in c.in_err-prefix.ensures t.prefix t.fits t.printed)

pub returns : goal.returns
returns c = row_line _ _ c.in_ok-prefix.ensures.0 c.in_ok-prefix.ensures.1
