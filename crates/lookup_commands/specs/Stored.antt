-- What the command `put` promises: that it looks up the key of an item, and then gives the item to each contact of the result
-- that gave a token (BEP 44, `put`), or spread over the paths to each of the k closest of each.
use Rattle.std.specs.Prelude.{◌≡◌, ◌⊎◌, ℕ, List, length, Bool}
use Rattle.kad_base.specs.declared.types.Addr.{Addr}
use Rattle.kad_base.specs.declared.types.Event.{Event}
use Rattle.kad_base.specs.Outside.{Grows}
use Rattle.claim_book.specs.declared.types.Entry.{Entry}
use Rattle.claim_book.specs.Journal.{asked, failed, turned}
use Rattle.claim_book.specs.Result.{result_of}
use Rattle.item_store.specs.Items.{IsItem}
use Rattle.lookup_core.specs.declared.quest.AskKind.TheVariants.{GetItem}
use Rattle.kad_words.specs.declared.command.LookWords.{LookWords}
use Rattle.follow_ups.specs.Announced.{announcements, putting}
use Rattle.command_base.specs.Called.{Called}
use Rattle.lookup_commands.specs.Followed.{AnnouncedSome, Owing, RefusedFirst, TellsThen}
use Rattle.lookup_commands.specs.Looked.{LookupBegun, NeverInStrays, seek_aim}
use Rattle.lookup_commands.specs.Printed.{printed_stored}
use Rattle.command_base.specs.Promise.{Aim, Promise, valued}
use Rattle.lookup_commands.specs.Reached.{HasRunOut}
use Rattle.lookup_commands.specs.Spread.{IsSpread}
use Rattle.command_base.specs.Shown.{Shown}
use Rattle.command_base.specs.Started.{book_of}

-- the item is given to those that are followed up
abbrev pub putting_to : List ℕ → Owing
putting_to item own found tokens = announcements (putting own item) found tokens

-- the events tell a whole lookup, and then so many puts that the link took
abbrev pub TellsPuts : LookWords → List ℕ → Bool → Called → List Entry → ℕ → List Event → Type 0
TellsPuts look item spread called J stored events = (peers : List Addr) × TellsThen GetItem look spread (putting_to item) called J peers stored events

-- A lookup of an item's key that was asked for, and that has run out, with its puts. The text has the key, and counts what was
-- found, asked and put.
pub record PutText (look : LookWords) (item : List ℕ) (spread : Bool) (called : Called) (source : Shown ℕ) (link : Shown Event) (text : List ℕ) : Type 0 where
  pub journal : List Entry
  pub ran : HasRunOut GetItem look called.random source journal
  -- whether it spreads its puts or not
  pub spreads : IsSpread (book_of GetItem look called.random) journal
  pub stored : ℕ
  pub tells : Grows link.before link.after (TellsPuts look item spread called journal stored)
  pub no_last_stray : NeverInStrays GetItem look called link
  pub refused : RefusedFirst journal link.sends link.sends'
  pub text_is : text ≡ printed_stored look.target (length (result_of (book_of GetItem look called.random) journal)) (length (asked journal)) (length (failed journal)) (length (turned journal)) stored

-- one that ended early, itself or in its puts
abbrev pub PutBegun : LookWords → List ℕ → Bool → Called → Shown ℕ → Shown Event → Type 0
PutBegun look item spread called source link = LookupBegun GetItem look called source link ⊎ AnnouncedSome GetItem look spread (putting_to item) called source link

abbrev pub put_aim : LookWords → List ℕ → Bool → Aim
put_aim look item spread = seek_aim (record { kind = GetItem; look = look }) (λ called source link text. PutText look item spread called source link text) (λ called source link. PutBegun look item spread called source link)

-- what is put has to be the written form of a value that may be an item
abbrev pub put_promise : LookWords → List ℕ → Bool → Promise
put_promise look item spread = valued (IsItem item) (put_aim look item spread)
