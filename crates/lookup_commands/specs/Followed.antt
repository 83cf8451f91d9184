-- What the link's events tell of a command that looks up and then says something to each contact that is followed up and gave
-- a token: first a whole lookup, and then what is said.
use Rattle.std.specs.Prelude.{◌≡◌, ◌≤◌, ℕ, ◌+◌, List, ◌++◌, length, Bool, true, None, false}
use Rattle.kad_base.specs.declared.types.Id.{Id}
use Rattle.kad_base.specs.declared.types.Addr.{Addr}
use Rattle.kad_base.specs.declared.types.Contact.{Contact}
use Rattle.kad_base.specs.declared.types.Event.{Event}
use Rattle.kad_base.specs.Outside.{Grows}
use Rattle.claim_book.specs.declared.types.Entry.{Entry}
use Rattle.claim_book.specs.Journal.{asked}
use Rattle.lookup_core.specs.declared.quest.AskKind.{AskKind}
use Rattle.lookup_core.specs.declared.gather.Item.{Item}
use Rattle.lookup_run.specs.declared.types.Outcome.{Outcome}
use Rattle.lookup_core.specs.declared.gather.Token.{Token}
use Rattle.lookup_run.specs.Rounds.{scheduling_by}
use Rattle.lookup_core.specs.SendFaults.{RefusedIn}
use Rattle.kad_words.specs.declared.command.LookWords.{LookWords}
use Rattle.follow_ups.specs.declared.announce.Announcement.{Announcement}
use Rattle.follow_ups.specs.Announced.{Announces, AnnouncesSome, sent_in}
use Rattle.command_base.specs.Called.{Called}
use Rattle.lookup_commands.specs.Reached.{HasRunOut, TellsAll}
use Rattle.lookup_commands.specs.Spread.{followed, spread_over}
use Rattle.command_base.specs.Shown.{Shown}
use Rattle.command_base.specs.Started.{own_of, book_of, drawn_of, lookup_of}

-- what is owed to those that are followed up, by who owes it and by the tokens that were given
abbrev pub Owing : Type 0
Owing = Id → List Contact → List Token → List Announcement

-- what is owed to those whom the journal gives to be followed up, spread over the paths or not
abbrev pub owed_by : AskKind → LookWords → Bool → Owing → List ℕ → List Entry → List Token → List Announcement
owed_by kind look spread owing random J tokens = owing (own_of look.own random) (followed spread (book_of kind look random) J) tokens

-- those contacts, of an outcome: what it found, or the k closest of each path of its journal
abbrev pub chosen : Bool → LookWords → Outcome → List Contact
chosen false look o = o.found
chosen true look o = spread_over look.target look.k look.paths o.journal

-- the words for it come after those of the lookup's queries
abbrev pub next_place : List ℕ → List Entry → ℕ
next_place random J = (drawn_of random).place + length (asked J)

-- whom the lookup lost to a refused send, the link counted; what was said after it, the link may have refused too
pub record RefusedFirst (J : List Entry) (before after : ℕ) : Type 0 where
  pub between : ℕ
  pub refused : RefusedIn J before between
  pub no_less : between ≤ after

-- what the events tell: first a whole lookup, and then each thing that is owed
pub record TellsThen (kind : AskKind) (look : LookWords) (spread : Bool) (owing : Owing) (called : Called) (J : List Entry) (peers : List Addr) (sent : ℕ) (events : List Event) : Type 0 where
  pub lookup : List Event
  pub then : List Event
  pub whole : events ≡ lookup ++ then
  pub tokens : List Token
  pub items : List Item
  pub tells : TellsAll (scheduling_by called.slow) (lookup_of kind look called) J peers tokens items lookup
  pub announces : Announces true None called.random (next_place called.random J) (owed_by kind look spread owing called.random J tokens) then
  pub counts : sent ≡ sent_in then

-- first a whole lookup, and then a front of what is owed
pub record TellsSomeThen (kind : AskKind) (look : LookWords) (spread : Bool) (owing : Owing) (called : Called) (J : List Entry) (events : List Event) : Type 0 where
  pub lookup : List Event
  pub then : List Event
  pub whole : events ≡ lookup ++ then
  pub peers : List Addr
  pub tokens : List Token
  pub items : List Item
  pub tells : TellsAll (scheduling_by called.slow) (lookup_of kind look called) J peers tokens items lookup
  pub announces : AnnouncesSome true None called.random (next_place called.random J) (owed_by kind look spread owing called.random J tokens) then

-- a lookup that has run out, after which not all that is owed was said
pub record AnnouncedSome (kind : AskKind) (look : LookWords) (spread : Bool) (owing : Owing) (called : Called) (source : Shown ℕ) (link : Shown Event) : Type 0 where
  pub journal : List Entry
  pub ran : HasRunOut kind look called.random source journal
  pub tells : Grows link.before link.after (TellsSomeThen kind look spread owing called journal)
  pub refused : RefusedFirst journal link.sends link.sends'
