use Rattle.std.proofs.Common.{◌≡◌, ◌++◌, map, take}
use Rattle.std.specs.Prelude.{All}
use Rattle.bucket_tree.specs.declared.types.Live.{Live}
use Rattle.table_file.specs.declared.line.Line.TheVariants as line
use Rattle.kad_text.specs.Text.{FitsContact}
use Rattle.table_file.specs.SavedText.{joined}
use Rattle.table_file.proofs.writing.put_lives.Given as goal

abbrev pub invariant-loop-entry : goal.invariant-loop-entry
invariant-loop-entry l = (l.output ≡ l.initial.output ++ joined (map line.Live (take l.entry-index l.live))) × All (λ (e : Live). FitsContact e.contact) (take l.entry-index l.live)
