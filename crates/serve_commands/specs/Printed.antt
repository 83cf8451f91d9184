-- What a node prints of itself. The lines are this project's own.
use Rattle.std.specs.Prelude.{◌≡◌, ℕ, Bool, true, false, List, ◌++◌, codes, decimal}
use Rattle.contact_table.specs.SavedState.{state_of}
use Rattle.contact_table.specs.TableState.{TableState, unlimited}
use Rattle.contact_table.specs.declared.saved.Saved.{Saved}
use Rattle.table_file.specs.SavedText.{IsSavedText}
use Rattle.command_base.specs.Printed.{line_of}

-- the output of a node that served, one line: how many datagrams came, and how many replies were sent
abbrev pub served_text : ℕ → ℕ → List ℕ
served_text received replied = codes "received " ++ decimal received ++ codes " replied " ++ decimal replied

abbrev pub printed_served : ℕ → ℕ → List ℕ
printed_served received replied = line_of (served_text received replied)

-- the text is the saved text of what the table holds (not of its limit), as the command `table` prints it, so that it can be read back
pub record IsTableText (table : TableState) (text : List ℕ) : Type 0 where
  pub saved : Saved
  pub held : state_of saved ≡ unlimited table
  pub is_saved : IsSavedText text saved

-- the output, and behind it the saved text of the table, if that is wanted
abbrev pub WithTable : Bool → TableState → List ℕ → List ℕ → Type 0
WithTable false table output text = text ≡ output
WithTable true table output text = (saved : List ℕ) × (text ≡ output ++ saved) × IsTableText table saved
