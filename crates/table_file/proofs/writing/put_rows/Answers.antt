use Rattle.std.proofs.Common.{arith, subst, ◌≡◌, ◌++◌}
use Rattle.std.proofs.lemmas.List.Elements.{All-more}
use Rattle.bucket_tree.specs.declared.rows.Row.{Row}
use Rattle.table_file.specs.SavedText.{FitsRow, joined, row_lines}
use Rattle.table_file.proofs.Fitting.{row_more}
use Rattle.table_file.proofs.writing.put_rows.Goals as goal

pub loop-row-preserved : goal.loop-row-preserved
loop-row-preserved c = (
  row_more c.args.rows.now c.loop-row.row-index _ c.args.output.now _ _ (omega arith) c.loop-row.invariant.0 (subst (λ (row : Row). c.put_row.new.output ≡ c.loop-row.output ++ joined (row_lines row)) c.row-item.is c.in_ok-put_row.ensures.text),
  All-more FitsRow c.args.rows.now c.loop-row.row-index _ (omega arith) c.loop-row.invariant.1 (subst FitsRow c.row-item.is c.in_ok-put_row.ensures.fits),
)
