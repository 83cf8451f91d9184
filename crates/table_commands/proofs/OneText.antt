-- `table` has one text, and `refresh` has one by the link's events.
use Rattle.std.proofs.Common.{◌≡◌, ℕ, List, map, sym, ap, subst, ◌∙◌}
use Rattle.kad_base.specs.declared.types.Contact.{Contact}
use Rattle.kad_base.specs.declared.types.Event.{Event}
use Rattle.kad_base.specs.declared.types.Family.TheVariants.{Four}
use Rattle.kad_base.specs.declared.types.Report.{Report}
use Rattle.kad_words.specs.declared.command.RefreshWords.{RefreshWords}
use Rattle.kad_words.specs.declared.command.TableWords.{TableWords}
use Rattle.command_base.specs.Called.{Called}
use Rattle.table_commands.specs.Refreshing.{pings_of, Restores, RefreshText}
use Rattle.table_commands.specs.Tabled.{TableText}
use Rattle.command_base.specs.Input.{Admits}
use Rattle.command_base.specs.Shown.{SameInput, SameEvents, Shown}
use Rattle.command_base.specs.Started.{AreTableBounds, own_of, seen_call}
use Rattle.lookup_run.specs.Lookup.{TableTold}
use Rattle.contact_table.specs.Told.{new_table}
use Rattle.contact_table.specs.SavedState.{state_of}
use Rattle.contact_table.specs.TableState.{TableState}
use Rattle.table_file.specs.SavedText.{IsSavedText}
use Rattle.table_file.proofs.SavedOnce.{saved_once}
use Rattle.table_refresh.specs.Refreshed.{Refreshed}
use Rattle.table_refresh.proofs.Determined.{one_table}
use Rattle.command_base.proofs.Exactly.{admits_once}
use Rattle.command_base.proofs.OneTable.{new_once}
use Rattle.table_commands.proofs.OneTable.{text_once}
use Rattle.command_base.proofs.Repeated.{input_once, lists_once, added_once}

pub table_text_once : (words : TableWords) (random : List ℕ) (source again : Shown ℕ) (t u : List ℕ) → AreTableBounds words.k words.bits → SameInput source again
    → TableText words random source t → TableText words random again u → t ≡ u
table_text_once words random source again t u bounds same a b =
    let reports = lists_once source again a.reports b.reports same a.lists b.lists in
    let admits = subst (λ (l : List Report). Admits (own_of words.own random) Four words.policy l a.contacts) reports a.admits in
    let contacts = admits_once (own_of words.own random) Four words.policy b.reports a.contacts b.contacts admits b.admits in
    let calls = subst (λ (l : List Contact). TableTold (map seen_call l) (new_table (own_of words.own random) words.k words.bits) a.table) contacts a.told in
    let table = new_once (own_of words.own random) words.k words.bits 0 (map seen_call b.contacts) a.table b.table bounds.some_live bounds.few_live bounds.some_bits bounds.few_bits calls b.told in
    text_once a.table b.table t u table a.printed b.printed

restored_once : (source again : Shown ℕ) (s t : TableState) → SameInput source again → Restores source s → Restores again t → s ≡ t
restored_once source again s t same h k =
    let input = input_once source.before again.before source.after again.after h.input k.input same.held same.told same.told_again h.read k.read in
    h.table_is ∙ ap state_of (saved_once k.input h.saved k.saved (subst (λ (i : List ℕ). IsSavedText i h.saved) input h.is_saved) k.is_saved) ∙ sym k.table_is

pub refresh_once : (words : RefreshWords) (called : Called) (source again : Shown ℕ) (link beside : Shown Event) (t u : List ℕ) → SameInput source again → SameEvents link beside
    → RefreshText words called source link t → RefreshText words called again beside u → t ≡ u
refresh_once words called source again link beside t u same events_same a b =
    let x = a.refreshes in
    let y = b.refreshes in
    let table = restored_once source again x.table y.table same x.restores y.restores in
    let both = added_once link.before beside.before link.after beside.after _ _ events_same.before events_same.after events_same.told x.happens.told_are y.happens.told_are in
    let events : x.happens.events ≡ y.happens.events = sym both.1 ∙ both.2 in
    let one = subst (λ (es : List Event). Refreshed (pings_of words called x.table) x.table 5 a.after x.place es) events x.happens.holds in
    let went = subst (λ (s : TableState). Refreshed (pings_of words called s) s 5 a.after x.place y.happens.events) table one in
    text_once a.after b.after t u (one_table (pings_of words called y.table) y.table 5 a.after b.after x.place y.place y.happens.events y.restores.sound went y.happens.holds) a.printed b.printed
