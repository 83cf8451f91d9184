-- The command `refresh`, from its input to its end.
use Rattle.std.proofs.Common.{◌≢◌, ℕ, List, [], ◌∷◌, None, inl, inr, refl, subst}
use Rattle.kad_base.specs.declared.types.Event.{Event}
use Rattle.contact_table.specs.SavedState.{state_of}
use Rattle.contact_table.specs.TableState.{SoundTable, TableState}
use Rattle.contact_table.specs.declared.saved.Saved.{Saved}
use Rattle.kad_words.specs.declared.command.RefreshWords.{RefreshWords}
use Rattle.table_file.specs.Reading.{IsBadLine as IsBadSavedLine}
use Rattle.table_file.specs.SavedText.{IsSavedText}
use Rattle.table_file.proofs.SavedOnce.{saved_once}
use Rattle.command_base.specs.declared.status.Status.{Status}
use Rattle.command_base.specs.declared.status.Status.TheVariants.{LinkFault, Strays, Unsound}
use Rattle.command_base.specs.Endings.{number_of}
use Rattle.table_commands.specs.Refreshing.{IsSaved, RefreshCause, RefreshesWell, Restores, RestoresNone, SavedCause, refresh_aim, refresh_promise}
use Rattle.command_base.specs.Input.{ReadsAs}
use Rattle.command_base.specs.Promise.{IsOneOf}
use Rattle.command_base.specs.Shown.{Shown}
use Rattle.command_base.specs.Called.{Called}
use Rattle.command_base.proofs.Exactly.{input_once}
use Rattle.command_base.proofs.Lawful.{Lawful}
use Rattle.command_base.proofs.Staged.{Behind, reading_lawful}

-- ---- its input

saved_apart : (input : List ℕ) (number : ℕ) → IsSaved input → IsBadSavedLine input number → ⊥
saved_apart input number saved bad = bad.unread saved.0 saved.1

restored : (source : Shown ℕ) (table : TableState) → Restores source table → ReadsAs IsSaved source
restored source table r = record { input = r.input; read = r.read; is_good = (r.saved, r.is_saved) }

unrestored : (source : Shown ℕ) → RestoresNone source → ReadsAs IsSaved source
unrestored source n = record { input = n.input; read = n.read; is_good = (n.saved, n.is_saved) }

-- one text isn't that of a sound table, and of another
sound_or_not : (source : Shown ℕ) (table : TableState) → source.after ≢ None → Restores source table → RestoresNone source → ⊥
sound_or_not source table told r n =
    let same = input_once source.before source.after r.input n.input told r.read n.read in
    let one = saved_once n.input r.saved n.saved (subst (λ (l : List ℕ). IsSavedText l r.saved) same r.is_saved) n.is_saved in
    n.unsound (subst (λ (s : Saved). SoundTable (state_of s)) one (subst SoundTable r.table_is r.sound))

-- ---- the laws of its promise

module _ (words : RefreshWords) (called : Called) (source : Shown ℕ) (link : Shown Event) where
  behind : (s : Status) → RefreshCause words called source link s → Behind (refresh_aim words) called source link s
  behind LinkFault c = (
    restored source c.1.table c.1.restores,
    (c.0, (c.1.table, c.1.restores), inl (_, c.1), c.1),
    λ told none_. absurd none_,
    λ told early last. absurd last,
    λ told unsound. absurd (sound_or_not source c.1.table told c.1.restores unsound),
  )
  behind Strays c = (
    restored source c.table c.restores,
    (c, (c.table, c.restores), inl (_, c)),
    λ told none_. absurd none_,
    λ told early last. absurd last,
    λ told unsound. absurd (sound_or_not source c.table told c.restores unsound),
  )
  behind Unsound c = (unrestored source c, c, λ told none_. absurd none_, λ told early last. absurd last, λ told unsound. inl refl)
  behind other c = absurd c

  needed : (s : Status) → RefreshesWell words called source link → ¬ RefreshCause words called source link s
  needed LinkFault n c = n.hears c.0
  needed Strays n c = n.few_strays c
  needed Unsound n c = sound_or_not source n.table n.told n.restores c
  needed other n c = c

  in_ends : (s : Status) → RefreshCause words called source link s → IsOneOf (4 ∷ 7 ∷ 13 ∷ []) (number_of s)
  in_ends LinkFault c = inl refl
  in_ends Strays c = inr (inl refl)
  in_ends Unsound c = inr (inr (inl refl))
  in_ends other c = absurd c

  -- an input that gave no table
  pub no_table : (s : Status) → SavedCause source s → (refresh_promise words).cause called source link s
  no_table LinkFault h = absurd h
  no_table Strays h = absurd h
  no_table other h = h

pub refreshing_lawful : (words : RefreshWords) → Lawful (refresh_promise words)
refreshing_lawful words = reading_lawful (refresh_aim words) (record {
  good = λ called source link written t. restored source t.refreshes.table t.refreshes.restores;
  apart = saved_apart;
  seedless = λ called source none_. absurd none_;
  unrestored = λ source n. unrestored source n;
  sound = λ called source link written told t n. sound_or_not source t.refreshes.table told t.refreshes.restores n;
  seeded = λ called source link written told t none_. none_;
  few = λ called source link written told t last. last;
  uncalled = λ called link told same last. last;
  behind = λ called source link s c. behind words called source link s c;
  well = λ called source link n. (n.told, n.reads, restored source n.table n.restores);
  needed = λ called source link s n c. needed words called source link s n c;
  in_ends = λ called source link s c. in_ends words called source link s c;
  seeks = λ none_ called source no_one. no_one;
  counts = λ none_ called source link last. none_ refl;
  restores = λ none_ source n. none_ refl;
})
