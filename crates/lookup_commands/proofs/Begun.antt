-- From a lookup to the command that asked for it.
use Rattle.std.proofs.Common.{◌≡◌, ◌≢◌, ℕ, List, [], length, inl, refl, ap, subst, ◌∙◌}
use Rattle.std.specs.Prelude.{false, map}
use Rattle.std.specs.List.{All}
use Rattle.kad_base.specs.declared.types.Contact.{Contact}
use Rattle.kad_base.specs.declared.types.Event.{Event}
use Rattle.kad_base.specs.Contacts.{IsUsable}
use Rattle.kad_base.specs.Limits.{max_strays}
use Rattle.kad_base.specs.Outside.{Grows}
use Rattle.id_puzzles.specs.Drawn.{WordsState}
use Rattle.contact_table.specs.TableState.{TableState}
use Rattle.contact_table.specs.TableStep.{contacts_of}
use Rattle.contact_table.specs.Told.{new_table}
use Rattle.claim_book.specs.declared.types.Setting.{Setting}
use Rattle.claim_book.specs.declared.types.Entry.{Entry}
use Rattle.claim_book.specs.Journal.{asked, failed, turned}
use Rattle.claim_book.specs.Result.{result_of}
use Rattle.claim_book.proofs.Claims.{asked_distinct}
use Rattle.claim_book.proofs.Descent.{own_answers}
use Rattle.claim_book.proofs.Hosted.{has_few}
use Rattle.lookup_run.specs.declared.types.LookSetting.{LookSetting}
use Rattle.lookup_core.specs.declared.quest.AskKind.{AskKind}
use Rattle.lookup_run.specs.declared.types.Outcome.{Outcome}
use Rattle.lookup_run.specs.Tells.{Given, HasFewStrays, NeverEnds}
use Rattle.lookup_run.specs.Lookup.{given_of, TableTold, TellsEarly, Unfinished, EndsByStrays, MeetsFewStrays}
use Rattle.kad_words.specs.declared.command.LookWords.{LookWords}
use Rattle.command_base.specs.Printed.{printed, printed_of}
use Rattle.command_base.specs.Shown.{Shown}
use Rattle.command_base.specs.Input.{Reads}
use Rattle.command_base.specs.Started.{look_of, book_of, drawn_of, IsInRange, seen_call, Start}
use Rattle.lookup_commands.specs.Looked.{LookupBegun, EndsByLastStray, MeetsFew}
use Rattle.command_base.proofs.Starting.{usable_told, admits_usable}
use Rattle.command_base.specs.Called.{Called}

pub text_is : (s : Setting) (o : Outcome) (text : List ℕ) → o.found ≡ result_of s o.journal → o.counts.asked ≡ length (asked o.journal) → o.counts.failed ≡ length (failed o.journal) → o.counts.turned ≡ length (turned o.journal) → text ≡ printed o.found o.counts.asked o.counts.failed o.counts.turned → text ≡ printed_of s o.journal
text_is s o text a b c d is =
    is ∙ ap (λ l. printed l o.counts.asked o.counts.failed o.counts.turned) a
    ∙ ap (λ n. printed (result_of s o.journal) n o.counts.failed o.counts.turned) b
    ∙ ap (λ n. printed (result_of s o.journal) (length (asked o.journal)) n o.counts.turned) c
    ∙ ap (λ n. printed (result_of s o.journal) (length (asked o.journal)) (length (failed o.journal)) n) d

pub begun_of : (kind : AskKind) (look : LookWords) (called : Called) (source : Shown ℕ) (link : Shown Event) (start : Start look called.random source) (left : WordsState) → Unfinished (look_of kind look called.random) called.accepts start.table (drawn_of called.random) left link.before link.after link.sends link.sends'
    → LookupBegun kind look called source link
begun_of kind look called source link start left h = record {
  start = start;
  left = left;
  so_far = h;
  asked_once = asked_distinct (book_of kind look called.random) h.journal h.legal;
  own_answers = own_answers (book_of kind look called.random) h.journal h.legal;
  few_of_a_host = has_few (book_of kind look called.random) h.journal h.legal;
}

pub tells_early : (g : Given) (J : List Entry) (events : List Event) → HasFewStrays g J events max_strays → TellsEarly g J events
tells_early g J events h = record { front = events; end = h.end; so_far = h.so_far; few = h.few; whole = inl refl }

-- ---- the same over the values that the code has

-- what a lookup has where it begins
pub record Has (kind : AskKind) (look : LookWords) (random : List ℕ) (source : Shown ℕ) (setting : LookSetting) (words : WordsState) (table : TableState) : Type 0 where
  pub setting_is : setting ≡ look_of kind look random
  pub words_are : words ≡ drawn_of random
  pub range : IsInRange look
  pub contacts : List Contact
  pub reads : Reads setting.own setting.family setting.policy source contacts
  pub some_one : contacts ≢ []
  pub told : TableTold (map seen_call contacts) (new_table setting.own look.k look.bits) table

pub has : (kind : AskKind) (look : LookWords) (random : List ℕ) (source : Shown ℕ) (setting : LookSetting) (words : WordsState) (table : TableState) (contacts xs : List Contact) → setting ≡ look_of kind look random → words ≡ drawn_of random → IsInRange look
    → Reads setting.own setting.family setting.policy source contacts → contacts ≢ [] → xs ≡ contacts → TableTold (map seen_call xs) (new_table setting.own look.k look.bits) table → Has kind look random source setting words table
has kind look random source setting words table contacts xs e f range reads some_one same told = record {
  setting_is = e;
  words_are = f;
  range = range;
  contacts = contacts;
  reads = reads;
  some_one = some_one;
  told = subst (λ (l : List Contact). TableTold (map seen_call l) (new_table setting.own look.k look.bits) table) same told;
}

abbrev pub start_of : (kind : AskKind) (look : LookWords) (random : List ℕ) (source : Shown ℕ) (setting : LookSetting) (words : WordsState) (table : TableState) → Has kind look random source setting words table → Start look random source
start_of kind look random source setting words table h = record {
  contacts = h.contacts;
  reads = subst (λ (s : LookSetting). Reads s.own s.family s.policy source h.contacts) h.setting_is h.reads;
  some_one = h.some_one;
  table = table;
  told = subst (λ (s : LookSetting). TableTold (map seen_call h.contacts) (new_table s.own look.k look.bits) table) h.setting_is h.told;
}

-- what holds of the setting and the words holds of those that they are
pub moved : (kind : AskKind) (look : LookWords) (random : List ℕ) (source : Shown ℕ) (setting : LookSetting) (words : WordsState) (table : TableState) (P : LookSetting → WordsState → Type 0) → Has kind look random source setting words table → P setting words → P (look_of kind look random) (drawn_of random)
moved kind look random source setting words table P h p = subst (P (look_of kind look random)) h.words_are (subst (λ (s : LookSetting). P s words) h.setting_is p)

pub usable_in_table : (kind : AskKind) (look : LookWords) (random : List ℕ) (source : Shown ℕ) (setting : LookSetting) (words : WordsState) (table : TableState) → Has kind look random source setting words table → All (IsUsable setting.own) (contacts_of table)
usable_in_table kind look random source setting words table h =
    usable_told setting.own look.k look.bits 0 h.contacts table (admits_usable setting.own setting.family setting.policy h.reads.reports h.contacts h.reads.admits) h.told

pub few_from : (kind : AskKind) (look : LookWords) (called : Called) (source : Shown ℕ) (link : Shown Event) (setting : LookSetting) (words : WordsState) (table : TableState) → Has kind look called.random source setting words table
    → MeetsFewStrays setting called.accepts table words link.before link.after → (setting.sealed ≡ false → Grows link.before link.after (NeverEnds (given_of setting called.accepts words) max_strays)) → MeetsFew kind look called source link
few_from kind look called source link setting words table h few never = record {
  start = start_of kind look called.random source setting words table h;
  meets = moved kind look called.random source setting words table (λ s w. MeetsFewStrays s called.accepts table w link.before link.after) h few;
  never = moved kind look called.random source setting words table (λ s w. s.sealed ≡ false → Grows link.before link.after (NeverEnds (given_of s called.accepts w) max_strays)) h never;
}

pub begun_from : (kind : AskKind) (look : LookWords) (called : Called) (source : Shown ℕ) (link : Shown Event) (setting : LookSetting) (words left : WordsState) (table : TableState) → Has kind look called.random source setting words table
    → Unfinished setting called.accepts table words left link.before link.after link.sends link.sends' → LookupBegun kind look called source link
begun_from kind look called source link setting words left table h so_far =
    begun_of kind look called source link (start_of kind look called.random source setting words table h) left
    (moved kind look called.random source setting words table (λ s w. Unfinished s called.accepts table w left link.before link.after link.sends link.sends') h so_far)

pub strays_from : (kind : AskKind) (look : LookWords) (called : Called) (source : Shown ℕ) (link : Shown Event) (setting : LookSetting) (words : WordsState) (table : TableState) → Has kind look called.random source setting words table
    → EndsByStrays setting called.accepts table words link.before link.after → EndsByLastStray kind look called source link
strays_from kind look called source link setting words table h ends = record {
  start = start_of kind look called.random source setting words table h;
  ends = moved kind look called.random source setting words table (λ s w. EndsByStrays s called.accepts table w link.before link.after) h ends;
}
