-- What the command `refresh` promises: that the input was the saved text of a sound table, that the link's events are those
-- of the eviction pings of that table (Kademlia, 2002, section 2.2), and that the text is the saved text of the table that
-- results. Which text a table has, and whom one call pings, is this project's own.
use Rattle.std.specs.Prelude.{◌≡◌, ◌⊎◌, ℕ, List, [], ◌∷◌, true}
use Rattle.kad_base.specs.declared.types.Event.{Event}
use Rattle.kad_base.specs.Outside.{Happens}
use Rattle.contact_table.specs.SavedState.{state_of}
use Rattle.contact_table.specs.TableState.{SoundTable, TableState}
use Rattle.contact_table.specs.declared.saved.Saved.{Saved}
use Rattle.table_file.specs.Reading.{IsBadLine as IsBadSavedLine}
use Rattle.table_file.specs.SavedText.{IsSavedText}
use Rattle.kad_words.specs.declared.command.RefreshWords.{RefreshWords}
use Rattle.table_refresh.specs.Refreshed.{Given, Refreshed, Unfinished, goes_by}
use Rattle.table_refresh.specs.declared.types.RefreshSetting.{RefreshSetting}
use Rattle.table_refresh.specs.declared.types.RefreshFault.{RefreshFault}
use Rattle.table_refresh.specs.declared.types.RefreshFault.TheVariants as fault
use Rattle.command_base.specs.declared.status.Status.{Status}
use Rattle.command_base.specs.declared.status.Status.TheVariants.{LinkFault, Strays, Unsound}
use Rattle.table_commands.specs.Tabled.{IsTextOf}
use Rattle.command_base.specs.Input.{ReadsAll}
use Rattle.command_base.specs.Promise.{Aim, Promise, ReadingCause, reading}
use Rattle.command_base.specs.Shown.{Shown, IsTold, HasFailed}
use Rattle.command_base.specs.Called.{Called}
use Rattle.command_base.specs.Started.{drawn_of}

-- ---- the input

-- the bytes are the saved text of some table, sound or not
abbrev pub IsSaved : List ℕ → Type 0
IsSaved input = (saved : Saved) × IsSavedText input saved

-- the input was read to its end, and it is the saved text of this table, which is sound
pub record Restores (source : Shown ℕ) (table : TableState) : Type 0 where
  pub input : List ℕ
  pub read : ReadsAll source.before source.after input
  pub saved : Saved
  pub is_saved : IsSavedText input saved
  pub table_is : table ≡ state_of saved
  pub sound : SoundTable table

-- of some sound table
abbrev pub RestoresSome : Shown ℕ → Type 0
RestoresSome source = (table : TableState) × Restores source table

-- the input was read to its end, and it is the saved text of a table that isn't sound
pub record RestoresNone (source : Shown ℕ) : Type 0 where
  pub input : List ℕ
  pub read : ReadsAll source.before source.after input
  pub saved : Saved
  pub is_saved : IsSavedText input saved
  pub unsound : ¬ SoundTable (state_of saved)

-- why an input gave no table
abbrev pub TableCause : Shown ℕ → Status → Type 0
TableCause source Unsound = RestoresNone source
TableCause source other = ⊥

abbrev pub SavedCause : Shown ℕ → Status → Type 0
SavedCause source status = ReadingCause IsBadSavedLine (TableCause source) source status

-- ---- the pings

-- how the words say that a table is refreshed
abbrev pub refresh_setting : RefreshWords → RefreshSetting
refresh_setting words = record { timeout = words.timeout; sealed = words.sealed; all = words.all }

-- what they go by, of this table; their transaction ids are drawn as those of a lookup are
abbrev pub pings_of : RefreshWords → Called → TableState → Given
pings_of words called table = goes_by table (refresh_setting words) called.accepts (drawn_of called.random).seed

-- a whole refresh: the input's table, the link's events, and the table that results
pub record Refreshes (words : RefreshWords) (called : Called) (source : Shown ℕ) (link : Shown Event) (after : TableState) : Type 0 where
  pub table : TableState
  pub restores : Restores source table
  pub place : ℕ
  pub happens : Happens link.before link.after (Refreshed (pings_of words called table) table (drawn_of called.random).place after place)

-- one that ended early by a fault
pub record RefreshEnds (words : RefreshWords) (called : Called) (source : Shown ℕ) (link : Shown Event) (by : RefreshFault) : Type 0 where
  pub table : TableState
  pub restores : Restores source table
  pub after : TableState
  pub place : ℕ
  pub happens : Happens link.before link.after (Unfinished (pings_of words called table) table (drawn_of called.random).place by after place)

-- ---- what it promises

-- a whole refresh, whose text is the saved text of the table that results
pub record RefreshText (words : RefreshWords) (called : Called) (source : Shown ℕ) (link : Shown Event) (text : List ℕ) : Type 0 where
  pub after : TableState
  pub refreshes : Refreshes words called source link after
  pub printed : IsTextOf after text

-- one that gave no text: it ended early, or it was whole
abbrev pub RefreshBegun : RefreshWords → Called → Shown ℕ → Shown Event → Type 0
RefreshBegun words called source link = ((by : RefreshFault) × RefreshEnds words called source link by) ⊎ ((after : TableState) × Refreshes words called source link after)

-- why it ended after its input
abbrev pub RefreshCause : RefreshWords → Called → Shown ℕ → Shown Event → Status → Type 0
RefreshCause words called source link LinkFault = HasFailed link × RefreshEnds words called source link fault.LinkFault
RefreshCause words called source link Strays = RefreshEnds words called source link fault.Strays
RefreshCause words called source link Unsound = RestoresNone source
RefreshCause words called source link other = ⊥

-- what it needs: the saved text of a sound table, no failure and few strays
pub record RefreshesWell (words : RefreshWords) (called : Called) (source : Shown ℕ) (link : Shown Event) : Type 0 where
  pub told : IsTold source
  pub reads : ¬ HasFailed source
  pub hears : ¬ HasFailed link
  pub few_strays : ¬ RefreshEnds words called source link fault.Strays
  pub table : TableState
  pub restores : Restores source table

abbrev pub refresh_aim : RefreshWords → Aim
refresh_aim words = record {
  links = true;
  good = IsSaved;
  bad = IsBadSavedLine;
  unsound = λ source. RestoresNone source;
  no_seeds = λ called source. ⊥;
  last_stray = λ called link. ⊥;
  strays = λ called source link. RefreshEnds words called source link fault.Strays;
  few = λ called source link. RefreshEnds words called source link fault.LinkFault;
  ends = 4 ∷ 7 ∷ 13 ∷ [];
  ranges = Unit {0};
  text = λ called source link written. RefreshText words called source link written;
  started = λ called source. RestoresSome source;
  begun = λ called source link. RefreshBegun words called source link;
  cause = λ called source link status. RefreshCause words called source link status;
  needs = λ called source link. RefreshesWell words called source link;
}

abbrev pub refresh_promise : RefreshWords → Promise
refresh_promise words = reading (refresh_aim words)
