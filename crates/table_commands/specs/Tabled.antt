-- What `table` makes: the saved text of the routing table from which a lookup with the same words and input takes the nodes
-- that it begins with. The text is this project's own.
use Rattle.std.specs.Prelude.{◌≡◌, ℕ, List, map}
use Rattle.kad_base.specs.declared.types.Family.TheVariants.{Four}
use Rattle.kad_base.specs.declared.types.Contact.{Contact}
use Rattle.kad_base.specs.declared.types.Report.{Report}
use Rattle.contact_table.specs.SavedState.{state_of}
use Rattle.contact_table.specs.TableState.{TableState, unlimited}
use Rattle.contact_table.specs.Told.{new_table}
use Rattle.contact_table.specs.declared.saved.Saved.{Saved}
use Rattle.kad_words.specs.declared.command.TableWords.{TableWords}
use Rattle.lookup_run.specs.Lookup.{TableTold}
use Rattle.table_file.specs.SavedText.{IsSavedText}
use Rattle.command_base.specs.Input.{Lists, Admits}
use Rattle.command_base.specs.Promise.{Promise, judge_aim, reading}
use Rattle.command_base.specs.Shown.{Shown}
use Rattle.command_base.specs.Started.{AreTableBounds, own_of, seen_call}

-- the text is the saved text of what the table holds (not of its limit), so that it can be read back
pub record IsTextOf (table : TableState) (text : List ℕ) : Type 0 where
  pub saved : Saved
  pub held : state_of saved ≡ unlimited table
  pub is_saved : IsSavedText text saved

-- the contacts of the input that are usable and pass, in order, were told to a new table, and the text is that table's
pub record TableText (words : TableWords) (random : List ℕ) (source : Shown ℕ) (text : List ℕ) : Type 0 where
  pub reports : List Report
  pub lists : Lists source reports
  pub contacts : List Contact
  pub admits : Admits (own_of words.own random) Four words.policy reports contacts
  pub table : TableState
  pub told : TableTold (map seen_call contacts) (new_table (own_of words.own random) words.k words.bits) table
  pub printed : IsTextOf table text

abbrev pub table_promise : TableWords → Promise
table_promise words = reading (judge_aim (AreTableBounds words.k words.bits) (λ random source text. TableText words random source text))
