-- The options as the code has them.
use Rattle.std.specs.Prelude.{List, map}
use Rattle.kad_words.specs.Table.{Entry}
use Rattle.kad_words.specs.declared.choice.Choice.{Choice}

-- an option of the code, as the definition has it
abbrev pub entry_of : Choice → Entry
entry_of c = record { name = c.name.now; kind = c.kind; need = c.need }

abbrev pub entries_of : List Choice → List Entry
entries_of = map entry_of
