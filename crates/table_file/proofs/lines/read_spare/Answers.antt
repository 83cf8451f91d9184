use Rattle.table_file.proofs.LineSpelling.{is_spare, spare_line}
use Rattle.table_file.proofs.lines.read_spare.Goals as goal

pub returns-in_err-contact : goal.returns-in_err-contact
returns-in_err-contact c = rw c.from_residual.ensures (λ l s. let t = is_spare _ l s in c.in_err-contact.ensures t.0 t.1)

pub returns : goal.returns
returns c = spare_line _ _ c.in_ok-contact.ensures
