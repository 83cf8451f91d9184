use Rattle.std.proofs.Common.{◌≡◌, ◌++◌, map, take}
use Rattle.std.specs.Prelude.{All}
use Rattle.table_file.specs.declared.line.Line.TheVariants as line
use Rattle.kad_text.specs.Text.{FitsContact}
use Rattle.table_file.specs.SavedText.{joined}
use Rattle.table_file.proofs.writing.put_spares.Given as goal

abbrev pub invariant-loop-contact : goal.invariant-loop-contact
invariant-loop-contact l = (l.output ≡ l.initial.output ++ joined (map line.Spare (take l.contact-index l.spare))) × All FitsContact (take l.contact-index l.spare)
