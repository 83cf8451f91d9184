use Rattle.std.proofs.Common.{◌≡◌, ◌++◌, map, take}
use Rattle.table_file.specs.SavedText.{bit_text}
use Rattle.table_file.proofs.print.put_bits.Given as goal

abbrev pub invariant-loop-at : goal.invariant-loop-at
invariant-loop-at l = l.output ≡ l.initial.output ++ map bit_text (take l.at l.prefix)
