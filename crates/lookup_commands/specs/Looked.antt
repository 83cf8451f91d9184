-- What the command `lookup` promises: that its text is that of the journal of a lookup that has run out, which the link's
-- events tell (S/Kademlia, 2007, section 4.4, over Kademlia, 2002, section 2.3); and what any lookup is that ended early.
use Rattle.std.specs.Prelude.{◌≡◌, ℕ, List, [], ◌∷◌, true, false}
use Rattle.std.specs.List.{IsDistinct}
use Rattle.kad_base.specs.declared.types.Id.{Id}
use Rattle.kad_base.specs.declared.types.Policy.{Policy}
use Rattle.kad_base.specs.declared.types.Family.{Family}
use Rattle.kad_base.specs.declared.types.Event.{Event}
use Rattle.kad_base.specs.Contacts.{same}
use Rattle.kad_base.specs.Limits.{max_strays}
use Rattle.kad_base.specs.Outside.{Grows}
use Rattle.id_puzzles.specs.Drawn.{WordsState}
use Rattle.claim_book.specs.declared.types.Entry.{Entry}
use Rattle.claim_book.specs.Journal.{asked}
use Rattle.claim_book.specs.Crowded.{HasFewOfAHost}
use Rattle.claim_book.specs.Lineage.{GoesByOwnAnswers}
use Rattle.lookup_core.specs.declared.quest.AskKind.{AskKind}
use Rattle.lookup_core.specs.declared.quest.AskKind.TheVariants.{FindNode}
use Rattle.lookup_run.specs.Tells.{Tells, EndsAtStray, HasFewStrays, NeverEnds}
use Rattle.lookup_run.specs.Rounds.{Rounds, scheduling_by}
use Rattle.lookup_run.specs.Lookup.{Unfinished, EndsByStrays, MeetsFewStrays}
use Rattle.lookup_core.specs.SendFaults.{RefusedIn}
use Rattle.kad_words.specs.declared.command.LookWords.{LookWords}
use Rattle.command_base.specs.declared.status.Status.{Status}
use Rattle.command_base.specs.declared.status.Status.TheVariants.{LinkFault, Strays, NoSeeds}
use Rattle.command_base.specs.Printed.{printed_of}
use Rattle.command_base.specs.Shown.{Shown, IsTold, HasFailed}
use Rattle.command_base.specs.Called.{Called}
use Rattle.command_base.specs.Input.{Reads, ReadsSome, AreGoodLines, IsBadContactLine}
use Rattle.command_base.specs.Promise.{Promise, Aim, ReadingCause, reading, ReportsCause}
use Rattle.lookup_commands.specs.Reached.{HasRunOut}
use Rattle.command_base.specs.Started.{own_of, look_of, book_of, drawn_of, lookup_of, IsInRange, Start}

-- the query that a lookup asks by, and its options
pub record Sought : Type 0 where
  pub kind : AskKind
  pub look : LookWords

-- the events of a lookup that isn't sealed don't end with the last stray that it takes, by whatever journal
abbrev pub NeverInStrays : AskKind → LookWords → Called → Shown Event → Type 0
NeverInStrays kind look called link = look.sealed ≡ false → Grows link.before link.after (NeverEnds (lookup_of kind look called) max_strays)

-- they do, by some
abbrev pub IsInStrays : AskKind → LookWords → Called → Shown Event → Type 0
IsInStrays kind look called link = (look.sealed ≡ false) × Grows link.before link.after (λ events. (J : List Entry) × EndsAtStray (lookup_of kind look called) J events max_strays)

-- A lookup that was asked for: its journal has run out, the link's events tell it and go by rounds, and the text is its
-- own. So each that is printed has answered. Unless the check is slow, the paths settle one after another.
pub record LookupText (kind : AskKind) (look : LookWords) (called : Called) (source : Shown ℕ) (link : Shown Event) (text : List ℕ) : Type 0 where
  pub journal : List Entry
  pub ran : HasRunOut kind look called.random source journal
  pub tells : Grows link.before link.after (λ events. Tells (lookup_of kind look called) journal events)
  pub rounds : Grows link.before link.after (λ events. Rounds (scheduling_by called.slow) (lookup_of kind look called) journal events)
  pub few_strays : Grows link.before link.after (λ events. HasFewStrays (lookup_of kind look called) journal events max_strays)
  pub no_last_stray : NeverInStrays kind look called link
  -- over a link that tells nothing too
  pub refused : RefusedIn journal link.sends link.sends'
  pub text_is : text ≡ printed_of (book_of kind look called.random) journal

-- A lookup that ended early: there is a legal journal that begins with the same contacts, which the events tell so far. So
-- no contact was asked twice either, what a path asked came from its own seeds and answers, and who was lost to a refused
-- send, the link counted.
pub record LookupBegun (kind : AskKind) (look : LookWords) (called : Called) (source : Shown ℕ) (link : Shown Event) : Type 0 where
  pub start : Start look called.random source
  pub left : WordsState
  pub so_far : Unfinished (look_of kind look called.random) called.accepts start.table (drawn_of called.random) left link.before link.after link.sends link.sends'
  pub asked_once : IsDistinct same (asked so_far.journal)
  pub own_answers : GoesByOwnAnswers (book_of kind look called.random) so_far.journal
  pub few_of_a_host : HasFewOfAHost (book_of kind look called.random) so_far.journal

-- one that ended with the last stray that it takes: so it is by a legal journal that begins with the same contacts
pub record EndsByLastStray (kind : AskKind) (look : LookWords) (called : Called) (source : Shown ℕ) (link : Shown Event) : Type 0 where
  pub start : Start look called.random source
  pub ends : EndsByStrays (look_of kind look called.random) called.accepts start.table (drawn_of called.random) link.before link.after

-- one that ended early and has met fewer, by such a journal
pub record MeetsFew (kind : AskKind) (look : LookWords) (called : Called) (source : Shown ℕ) (link : Shown Event) : Type 0 where
  pub start : Start look called.random source
  pub meets : MeetsFewStrays (look_of kind look called.random) called.accepts start.table (drawn_of called.random) link.before link.after
  pub never : NeverInStrays kind look called link

-- ---- why there is no text

-- why a lookup ended after its input
abbrev pub SeekCause : AskKind → LookWords → Called → Shown ℕ → Shown Event → Status → Type 0
SeekCause kind look called source link LinkFault = HasFailed link × LookupBegun kind look called source link × MeetsFew kind look called source link
SeekCause kind look called source link Strays = EndsByLastStray kind look called source link × LookupBegun kind look called source link
SeekCause kind look called source link NoSeeds = Reads (own_of look.own called.random) look.family look.policy source []
SeekCause kind look called source link other = ⊥

-- why a lookup ended with no output
abbrev pub LookupCause : AskKind → LookWords → Called → Shown ℕ → Shown Event → Status → Type 0
LookupCause kind look called source link status = ReadingCause IsBadContactLine (SeekCause kind look called source link) source status

-- why an input gave no contacts to begin with
abbrev pub InputCause : Id → Family → Policy → Shown ℕ → Status → Type 0
InputCause own family policy source NoSeeds = Reads own family policy source []
InputCause own family policy source other = ReportsCause source other

-- ---- what is looked up, if something is

-- the input was read to its end, its lines are good, and none gives a contact of the network that is usable and passes
abbrev pub GivesNoSeeds : Sought → List ℕ → Shown ℕ → Type 0
GivesNoSeeds sought random source = Reads (own_of sought.look.own random) sought.look.family sought.look.policy source []

-- ---- what a command that looks up promises

-- what it needs: a good input with a node to begin with, no failure and few strays
pub record SeeksWell (sought : Sought) (called : Called) (source : Shown ℕ) (link : Shown Event) : Type 0 where
  pub told : IsTold source
  pub reads : ¬ HasFailed source
  pub hears : ¬ HasFailed link
  pub few_strays : ¬ EndsByLastStray sought.kind sought.look called source link
  pub seeds : ReadsSome (own_of sought.look.own called.random) sought.look.family sought.look.policy source

-- what a command does that looks this up, by its text and by what it had done when it ended early
abbrev pub seek_aim : Sought → (Called → Shown ℕ → Shown Event → List ℕ → Type 0) → (Called → Shown ℕ → Shown Event → Type 0) → Aim
seek_aim sought text begun = record {
  links = true;
  good = AreGoodLines;
  bad = IsBadContactLine;
  unsound = λ source. ⊥;
  no_seeds = λ called source. GivesNoSeeds sought called.random source;
  last_stray = λ called link. IsInStrays sought.kind sought.look called link;
  strays = λ called source link. EndsByLastStray sought.kind sought.look called source link;
  few = λ called source link. MeetsFew sought.kind sought.look called source link;
  ends = 4 ∷ 7 ∷ 8 ∷ [];
  ranges = IsInRange sought.look;
  text = text;
  started = λ called source. ReadsSome (own_of sought.look.own called.random) sought.look.family sought.look.policy source;
  begun = begun;
  cause = λ called source link status. SeekCause sought.kind sought.look called source link status;
  needs = λ called source link. SeeksWell sought called source link;
}

abbrev pub lookup_promise : LookWords → Promise
lookup_promise look = reading (seek_aim (record { kind = FindNode; look = look }) (λ called source link text. LookupText FindNode look called source link text) (λ called source link. LookupBegun FindNode look called source link))
