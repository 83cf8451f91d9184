use Rattle.std.proofs.Common.{arith, subst, sym}
use Rattle.std.specs.Prelude.{All}
use Rattle.kad_text.specs.Text.{FitsContact}
use Rattle.table_file.specs.SavedText.{FitsRow}
use Rattle.table_file.proofs.Fitting.{lines_fit, written}
use Rattle.table_file.proofs.writing.write.Goals as goal

pub returns : goal.returns
returns c =
    let rows = c.as_slice.ensures in
    let siblings = c.as_slice-2.ensures in
    written c.args.saved.now c.as_slice.result.now c.as_slice-2.result.now _ _ _ _ _ rows siblings c.new-output.ensures c.in_ok-put_table.ensures.text c.in_ok-put_rows.ensures.text c.in_ok-put_siblings.ensures.text c.in_ok-put_end.ensures
    (lines_fit c.args.saved.now c.in_ok-put_table.ensures.fits (omega arith) (omega arith) (subst (All FitsRow) rows c.in_ok-put_rows.ensures.fits) c.requires (subst (All FitsContact) siblings c.in_ok-put_siblings.ensures.fits))
