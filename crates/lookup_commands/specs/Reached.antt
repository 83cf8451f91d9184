-- What a lookup is, whatever it asks for: its journal is legal and begins with the table's closest contacts, the link's
-- events tell it, and all its paths have run out (S/Kademlia, 2007, section 4.4, over Kademlia, 2002, section 2.3).
use Rattle.std.specs.Prelude.{◌≡◌, ℕ, ◌<◌, List, true, false}
use Rattle.std.specs.List.{IsDistinct}
use Rattle.std.specs.List.Sorted.{IsStrictlySortedBy}
use Rattle.kad_base.specs.declared.types.Addr.{Addr}
use Rattle.kad_base.specs.declared.types.ClaimRule.TheVariants.{Named}
use Rattle.kad_base.specs.declared.types.Contact.{Contact}
use Rattle.kad_base.specs.declared.types.Event.{Event}
use Rattle.kad_base.specs.Contacts.{same, among}
use Rattle.kad_base.specs.Limits.{max_strays}
use Rattle.kad_base.specs.Outside.{Grows}
use Rattle.claim_book.specs.declared.types.Entry.{Entry}
use Rattle.claim_book.specs.Journal.{seeds, took, asked, answered}
use Rattle.claim_book.specs.Crowded.{HasFewOfAHost}
use Rattle.claim_book.specs.Legal.{Legal}
use Rattle.claim_book.specs.RunOut.{RunOut}
use Rattle.claim_book.specs.Result.{result_of}
use Rattle.claim_book.specs.Lineage.{GoesByOwnAnswers}
use Rattle.claim_book.specs.Calls.{Counted}
use Rattle.lookup_core.specs.declared.quest.AskKind.{AskKind}
use Rattle.lookup_core.specs.declared.gather.Item.{Item}
use Rattle.lookup_core.specs.declared.gather.Token.{Token}
use Rattle.lookup_run.specs.Tells.{Given, Tells, HasFewStrays, NeverEnds}
use Rattle.lookup_run.specs.Rounds.{Scheduling, Rounds, scheduling_by}
use Rattle.lookup_core.specs.Gathered.{addr_cmp}
use Rattle.lookup_run.specs.Gathered.{Gathers}
use Rattle.lookup_run.specs.Lookup.{seeds_dealt, drawn_for}
use Rattle.lookup_core.specs.SendFaults.{RefusedIn}
use Rattle.kad_words.specs.declared.command.LookWords.{LookWords}
use Rattle.lookup_commands.specs.declared.run_lookup.Reached.{Reached}
use Rattle.command_base.specs.Shown.{Shown}
use Rattle.command_base.specs.Called.{Called}
use Rattle.command_base.specs.Started.{own_of, look_of, book_of, drawn_of, lookup_of, Start}

-- The journal of a lookup that was asked for: it is legal and begins with the k closest contacts of the table that the
-- input gives, and every path has run out in it. So no contact is asked twice, and none taken twice where a name is a claim; what a
-- path asks comes from its own seeds and answers, and each of the result has answered.
pub record HasRunOut (kind : AskKind) (look : LookWords) (random : List ℕ) (source : Shown ℕ) (J : List Entry) : Type 0 where
  pub start : Start look random source
  pub legal : Legal (book_of kind look random) J
  pub seeds_are : seeds J ≡ seeds_dealt (look_of kind look random) start.table
  pub run_out : (p : ℕ) → p < look.paths → RunOut (book_of kind look random) p J
  pub taken_once : look.claim ≡ Named → IsDistinct same (took J)
  pub asked_once : IsDistinct same (asked J)
  pub own_answers : GoesByOwnAnswers (book_of kind look random) J
  pub few_of_a_host : HasFewOfAHost (book_of kind look random) J
  pub have_answered : (c : Contact) → among (result_of (book_of kind look random) J) c ≡ true → among (answered J) c ≡ true

-- what the events of a whole lookup tell: its journal, by rounds, with fewer strays than a lookup takes, and the peers,
-- tokens and items that its answers gave
pub record TellsAll (scheduling : Scheduling) (g : Given) (J : List Entry) (peers : List Addr) (tokens : List Token) (items : List Item) (events : List Event) : Type 0 where
  pub tells : Tells g J events
  pub rounds : Rounds scheduling g J events
  pub gathers : Gathers g J events peers tokens items
  pub few_strays : HasFewStrays g J events max_strays
  pub no_last_stray : g.quest.sealed ≡ false → NeverEnds g max_strays events

-- a lookup that was asked for has run out; this is what it found, by whom, and so far were its words drawn
pub record Reaches (kind : AskKind) (look : LookWords) (called : Called) (source : Shown ℕ) (link : Shown Event) (reached : Reached) : Type 0 where
  pub own_is : reached.own ≡ own_of look.own called.random
  pub ran : HasRunOut kind look called.random source reached.outcome.journal
  pub tells : Grows link.before link.after (TellsAll (scheduling_by called.slow) (lookup_of kind look called) reached.outcome.journal reached.outcome.peers reached.outcome.tokens reached.outcome.items)
  pub found : reached.outcome.found ≡ result_of (book_of kind look called.random) reached.outcome.journal
  pub counted : Counted reached.outcome.journal reached.outcome.counts
  pub drawn : reached.words ≡ drawn_for (drawn_of called.random) reached.outcome.journal
  pub in_order : IsStrictlySortedBy addr_cmp reached.outcome.peers
  pub refused : RefusedIn reached.outcome.journal link.sends link.sends'
