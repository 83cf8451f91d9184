use Rattle.std.proofs.Common.{map, sym, ap, ◌∙◌}
use Rattle.table_file.specs.SavedText.{bit_text}
use Rattle.table_file.proofs.PartSpelling.{bits_more, no_bit}
use Rattle.table_file.proofs.parts.bits_of.Goals as goal

pub returns-in_default : goal.returns-in_default
returns-in_default c = λ bits e. no_bit _ _ bits c.loop-byte-test.true c.in_default.ensures e

pub loop-byte-preserved : goal.loop-byte-preserved
loop-byte-preserved c = bits_more _ _ _ _ c.loop-byte-test.true c.in-Some.ensures c.loop-byte.invariant ∙ ap (map bit_text) (sym c.child-prefix.ensures)
