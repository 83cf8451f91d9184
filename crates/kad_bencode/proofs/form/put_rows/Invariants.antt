use Rattle.std.proofs.Common.{take}
use Rattle.std.specs.Prelude.{flat_map}
use Rattle.kad_bencode.specs.Forming.{row_text}
use Rattle.kad_bencode.specs.Written.{Puts}
use Rattle.kad_bencode.proofs.form.put_rows.Given as goal

abbrev pub invariant-loop-row : goal.invariant-loop-row
invariant-loop-row l = Puts l.initial.text l.text 0 (flat_map row_text (take l.row-index l.rows)) l.at
