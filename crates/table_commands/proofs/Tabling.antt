-- The command `table`: what its table holds can be written, and its parts are its text.
use Rattle.std.proofs.Common.{◌≡◌, ℕ, ◌≤◌, List, [], ◌∷◌, sym, subst}
use Rattle.std.specs.Prelude.{All, map}
use Rattle.std.proofs.lemmas.List.Elements.{All-cons, All-head, All-nil, All-tail}
use Rattle.kad_base.specs.declared.types.Family.TheVariants.{Four}
use Rattle.kad_base.specs.declared.types.Contact.{Contact}
use Rattle.kad_base.specs.declared.types.Id.{Id}
use Rattle.kad_base.specs.declared.types.Report.{Report}
use Rattle.bucket_tree.specs.Rows.{IsRow}
use Rattle.bucket_tree.specs.States.{state_of, states_of}
use Rattle.bucket_tree.specs.declared.rows.Row.{Row}
use Rattle.contact_table.specs.SavedState.{state_of as table_of}
use Rattle.contact_table.specs.TableState.{SoundTable, TableState, unlimited}
use Rattle.contact_table.specs.Told.{new_table}
use Rattle.contact_table.specs.declared.saved.Saved.{Saved}
use Rattle.kad_words.specs.declared.command.TableWords.{TableWords}
use Rattle.lookup_run.specs.Lookup.{TableTold}
use Rattle.table_file.specs.SavedText.{FailedOnce}
use Rattle.table_commands.specs.Tabled.{IsTextOf, TableText}
use Rattle.command_base.specs.Input.{Lists, Admits}
use Rattle.command_base.specs.Shown.{Shown}
use Rattle.command_base.specs.Started.{own_of, seen_call}

-- no live contact of a sound table failed twice

rows_failed_once : (own : Id) (k b : ℕ) (rows : List Row) → All (IsRow own k b) (states_of rows) → FailedOnce rows
rows_failed_once own k b [] h = All-nil (λ row. All (λ e. e.failures ≤ 1) row.live)
rows_failed_once own k b (row ∷ rows) h =
    All-cons (λ row. All (λ e. e.failures ≤ 1) row.live) row rows (All-head (IsRow own k b) (state_of row) (states_of rows) h).failed_once
    (rows_failed_once own k b rows (All-tail (IsRow own k b) (state_of row) (states_of rows) h))

pub can_be_written : (saved : Saved) (s : TableState) → SoundTable s → table_of saved ≡ unlimited s → FailedOnce saved.rows
can_be_written saved s sound e =
    let own : SoundTable (table_of saved) = subst SoundTable (sym e) (record { buckets = sound.buckets; siblings = sound.siblings }) in
    rows_failed_once saved.own saved.k saved.b saved.rows own.buckets.rows.each

-- what it prints, as the code has it
pub tabled : (words : TableWords) (random : List ℕ) (source : Shown ℕ) (id : Id) (reports read : List Report) (contacts cs : List Contact) (table : TableState) (text : List ℕ)
    → id ≡ own_of words.own random → Lists source reports → read ≡ reports → Admits id Four words.policy read contacts → cs ≡ contacts → TableTold (map seen_call cs) (new_table id words.k words.bits) table → IsTextOf table text
    → TableText words random source text
tabled words random source id reports read contacts cs table text mine lists is admits same told printed = record {
  reports = reports;
  lists = lists;
  contacts = contacts;
  admits = subst (λ (i : Id). Admits i Four words.policy reports contacts) mine (subst (λ (l : List Report). Admits id Four words.policy l contacts) is admits);
  table = table;
  told = subst (λ (i : Id). TableTold (map seen_call contacts) (new_table i words.k words.bits) table) mine (subst (λ (l : List Contact). TableTold (map seen_call l) (new_table id words.k words.bits) table) same told);
  printed = printed;
}
