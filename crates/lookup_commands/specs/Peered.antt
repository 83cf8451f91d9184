-- What the command `peers` promises: that its text names the peers which the answers of a lookup gave (BEP 5, `get_peers`),
-- and that then, if it is told a port, it announces it to each contact of the result that gave a token, or spread over the
-- paths to each of the k closest of each.
use Rattle.std.specs.Prelude.{◌≡◌, ◌⊎◌, ℕ, List, length, Option, Bool}
use Rattle.std.specs.List.Sorted.{IsStrictlySortedBy}
use Rattle.kad_base.specs.declared.types.Addr.{Addr}
use Rattle.kad_base.specs.declared.types.Event.{Event}
use Rattle.kad_base.specs.Outside.{Grows}
use Rattle.claim_book.specs.declared.types.Entry.{Entry}
use Rattle.claim_book.specs.Journal.{asked, failed, turned}
use Rattle.claim_book.specs.Result.{result_of}
use Rattle.lookup_core.specs.declared.quest.AskKind.TheVariants.{GetPeers}
use Rattle.lookup_core.specs.Gathered.{addr_cmp}
use Rattle.kad_words.specs.declared.command.LookWords.{LookWords}
use Rattle.follow_ups.specs.Announced.{owed}
use Rattle.lookup_commands.specs.Followed.{AnnouncedSome, Owing, RefusedFirst, TellsThen}
use Rattle.lookup_commands.specs.Looked.{LookupBegun, NeverInStrays, seek_aim}
use Rattle.lookup_commands.specs.Printed.{printed_peers}
use Rattle.command_base.specs.Promise.{Promise, reading}
use Rattle.command_base.specs.Shown.{Shown}
use Rattle.command_base.specs.Called.{Called}
use Rattle.lookup_commands.specs.Reached.{HasRunOut}
use Rattle.lookup_commands.specs.Spread.{IsSpread}
use Rattle.command_base.specs.Started.{book_of}

-- what is announced to those that are followed up: nothing if no port was told
abbrev pub announcing_to : LookWords → Option ℕ → Owing
announcing_to look announce own found tokens = owed announce own look.target found tokens

-- A lookup for peers that was asked for, with its announcements. The text names each peer once, in the order of addresses,
-- and counts what was found, asked and announced.
pub record PeersText (look : LookWords) (announce : Option ℕ) (spread : Bool) (called : Called) (source : Shown ℕ) (link : Shown Event) (text : List ℕ) : Type 0 where
  pub journal : List Entry
  pub ran : HasRunOut GetPeers look called.random source journal
  -- whether it spreads its announcements or not
  pub spreads : IsSpread (book_of GetPeers look called.random) journal
  pub peers : List Addr
  -- over a link that tells nothing too
  pub in_order : IsStrictlySortedBy addr_cmp peers
  pub announced : ℕ
  pub tells : Grows link.before link.after (TellsThen GetPeers look spread (announcing_to look announce) called journal peers announced)
  pub no_last_stray : NeverInStrays GetPeers look called link
  pub refused : RefusedFirst journal link.sends link.sends'
  pub text_is : text ≡ printed_peers peers (length (result_of (book_of GetPeers look called.random) journal)) (length (asked journal)) (length (failed journal)) (length (turned journal)) announced

-- a lookup for peers that ended early, itself or in its announcements
abbrev pub PeersBegun : LookWords → Option ℕ → Bool → Called → Shown ℕ → Shown Event → Type 0
PeersBegun look announce spread called source link = LookupBegun GetPeers look called source link ⊎ AnnouncedSome GetPeers look spread (announcing_to look announce) called source link

abbrev pub peers_promise : LookWords → Option ℕ → Bool → Promise
peers_promise look announce spread =
    reading (seek_aim (record { kind = GetPeers; look = look }) (λ called source link text. PeersText look announce spread called source link text) (λ called source link. PeersBegun look announce spread called source link))
