-- What the command `get` promises: that its text has the first item of the key which the answers of a lookup gave (BEP 44,
-- `get`), and says that there is none only if no answer gave one.
use Rattle.std.specs.Prelude.{◌≡◌, ◌≤◌, ℕ, List, ◌∷◌, ◌++◌, length, Option, Some, None}
use Rattle.std.specs.List.{All}
use Rattle.kad_base.specs.declared.types.Addr.{Addr}
use Rattle.kad_base.specs.declared.types.Contact.{Contact}
use Rattle.kad_base.specs.declared.types.Event.{Event}
use Rattle.kad_base.specs.declared.types.Id.{Id}
use Rattle.kad_base.specs.Outside.{Grows}
use Rattle.claim_book.specs.declared.types.Entry.{Entry}
use Rattle.claim_book.specs.Journal.{asked, failed, turned}
use Rattle.claim_book.specs.Result.{result_of}
use Rattle.item_store.specs.Items.{key_of, max_length}
use Rattle.lookup_core.specs.declared.quest.AskKind.TheVariants.{GetItem}
use Rattle.lookup_core.specs.declared.gather.Item.{Item}
use Rattle.lookup_run.specs.declared.types.Outcome.{Outcome}
use Rattle.lookup_core.specs.declared.gather.Token.{Token}
use Rattle.lookup_run.specs.Rounds.{Scheduling, scheduling_by}
use Rattle.lookup_core.specs.SendFaults.{RefusedIn}
use Rattle.lookup_run.specs.Tells.{Given}
use Rattle.kad_words.specs.declared.command.LookWords.{LookWords}
use Rattle.command_base.specs.Called.{Called}
use Rattle.lookup_commands.specs.Looked.{LookupBegun, NeverInStrays, seek_aim}
use Rattle.lookup_commands.specs.Printed.{printed_item}
use Rattle.command_base.specs.Promise.{Promise, reading}
use Rattle.lookup_commands.specs.Reached.{HasRunOut, TellsAll}
use Rattle.command_base.specs.Shown.{Shown}
use Rattle.command_base.specs.Started.{book_of, lookup_of}

-- the bytes are an item of the key: their SHA-1 is the key, and they aren't too long
pub record IsItemOf (key : Id) (v : List ℕ) : Type 0 where
  pub short : length v ≤ max_length
  pub key_is : key ≡ key_of v

-- the first of these that is an item of the key
pub record IsFirst (key : Id) (items : List Item) (v : List ℕ) : Type 0 where
  pub before : List Item
  pub by : Contact
  pub behind : List Item
  pub split : items ≡ before ++ record { contact = by; v = v } ∷ behind
  pub none_before : All (λ i. ¬ IsItemOf key i.v) before
  pub is_of : IsItemOf key v

-- that one, or none if none of them is
abbrev pub IsGot : Id → List Item → Option (List ℕ) → Type 0
IsGot key items None = All (λ i. ¬ IsItemOf key i.v) items
IsGot key items (Some v) = IsFirst key items v

-- the text of an outcome has the item that was got of what its contacts gave, and its counts
pub record IsPrinted (key : Id) (o : Outcome) (text : List ℕ) : Type 0 where
  pub item : Option (List ℕ)
  pub got : IsGot key o.items item
  pub text_is : text ≡ printed_item item (length o.found) o.counts.asked o.counts.failed o.counts.turned

-- the events tell a whole lookup, whose answers gave these items
abbrev pub TellsItems : Scheduling → Given → List Entry → List Item → List Event → Type 0
TellsItems scheduling g J items events = (peers : List Addr) × (tokens : List Token) × TellsAll scheduling g J peers tokens items events

-- A lookup for an item that was asked for, and that has run out. The text has the item that was got, which over a link that
-- tells nothing too isn't too long and has the key for its SHA-1, or says that there is none; and it counts what was found
-- and asked.
pub record GetText (look : LookWords) (called : Called) (source : Shown ℕ) (link : Shown Event) (text : List ℕ) : Type 0 where
  pub journal : List Entry
  pub ran : HasRunOut GetItem look called.random source journal
  pub items : List Item
  pub tells : Grows link.before link.after (TellsItems (scheduling_by called.slow) (lookup_of GetItem look called) journal items)
  pub no_last_stray : NeverInStrays GetItem look called link
  pub refused : RefusedIn journal link.sends link.sends'
  pub item : Option (List ℕ)
  pub got : IsGot look.target items item
  pub text_is : text ≡ printed_item item (length (result_of (book_of GetItem look called.random) journal)) (length (asked journal)) (length (failed journal)) (length (turned journal))

abbrev pub get_promise : LookWords → Promise
get_promise look = reading (seek_aim (record { kind = GetItem; look = look }) (λ called source link text. GetText look called source link text) (λ called source link. LookupBegun GetItem look called source link))
