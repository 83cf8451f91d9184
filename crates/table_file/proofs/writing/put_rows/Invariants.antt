use Rattle.std.proofs.Common.{◌≡◌, ◌++◌, take}
use Rattle.std.specs.Prelude.{All, flat_map}
use Rattle.table_file.specs.SavedText.{FitsRow, joined, row_lines}
use Rattle.table_file.proofs.writing.put_rows.Given as goal

abbrev pub invariant-loop-row : goal.invariant-loop-row
invariant-loop-row l = (l.output ≡ l.initial.output ++ joined (flat_map row_lines (take l.row-index l.rows))) × All FitsRow (take l.row-index l.rows)
