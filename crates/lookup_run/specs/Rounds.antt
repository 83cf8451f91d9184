-- The rounds of a lookup (this project's own): where the settling entries of its journal stand, in which order the paths
-- ask (S/Kademlia, 2007, section 4.4), and that they ask all that they may before the driver waits.
use Rattle.std.specs.Prelude.{◌≡◌, ◌≢◌, ℕ, zero, suc, ◌<◌, ◌≤◌, List, [], ◌∷◌, ◌++◌, None, Bool, true, false}
use Rattle.std.specs.List.{AllByRecursion}
use Rattle.kad_base.specs.declared.types.Contact.{Contact}
use Rattle.kad_base.specs.declared.types.Event.{Event}
use Rattle.kad_base.specs.declared.types.Event.TheVariants.{Now, Sent, Unsent, Got, Quiet}
use Rattle.claim_book.specs.declared.types.Setting.{Setting}
use Rattle.claim_book.specs.declared.types.Entry.{Entry}
use Rattle.claim_book.specs.declared.types.Entry.TheVariants.{Seed, Ask, Heard, Lost, Note, Taken, Held, Turned, Rejected, Skipped}
use Rattle.claim_book.specs.Journal.{seeds, settles_on, unsettled, may_ask}
pub use Rattle.claim_book.specs.Journal.{AllSettled}
use Rattle.lookup_run.specs.Tells.{Given, Seen, Gives, begun}

-- the path of an entry
abbrev pub path_number : Entry → ℕ
path_number (Seed q c) = q
path_number (Ask q c) = q
path_number (Heard q c reports) = q
path_number (Lost q c cause) = q
path_number (Note q c) = q
path_number (Taken q c) = q
path_number (Held q c by) = q
path_number (Turned q c) = q
path_number (Rejected q r) = q
path_number (Skipped q r) = q

-- the entry settles something
abbrev pub is_settling : Entry → Bool
is_settling e = settles_on (path_number e) e

-- how a round settles what its paths have: one path after another on one thread, or all paths at once
pub data Scheduling : Type 0 where
  sequential : Scheduling
  concurrent : Scheduling

-- by whether a check may take long
abbrev pub scheduling_by : Bool → Scheduling
scheduling_by false = sequential
scheduling_by true = concurrent

-- an entry of path q may stand behind one of path p
abbrev pub MayFollow : Scheduling → ℕ → ℕ → Type 0
MayFollow sequential p q = p ≤ q
MayFollow concurrent p q = Unit {0}

-- entries that settle: path by path in ascending path from p on, at once in any order of paths
abbrev pub SettlesFrom : Scheduling → ℕ → List Entry → Type 0
SettlesFrom scheduling p [] = Unit {0}
SettlesFrom scheduling p (e ∷ es) = MayFollow scheduling p (path_number e) × (is_settling e ≡ true) × SettlesFrom scheduling (path_number e) es

-- two of the first n paths have something to settle
pub record HasSeveral (n : ℕ) (J : List Entry) : Type 0 where
  pub one : ℕ
  pub other : ℕ
  pub apart : one < other
  pub within : other < n
  pub of_one : unsettled one J ≢ []
  pub of_other : unsettled other J ≢ []

-- none of the first n paths may ask
abbrev pub NoneAsks : Setting → ℕ → List Entry → Type 0
NoneAsks setting n J = (p : ℕ) → p < n → may_ask setting p J ≡ None

-- Entries that settle stand where a round has ended, and before the next one begins.
abbrev pub SettlesIn : Scheduling → ℕ → List Entry → Type 0
SettlesIn scheduling zero between = SettlesFrom scheduling 0 between
SettlesIn scheduling (suc n) between = between ≡ []

-- where a contact is asked, a round begins and nothing is unsettled; the paths before that of the ask may ask nothing,
-- and none that comes later asked since the last receive
pub record AsksInTurn (setting : Setting) (J : List Entry) (s : Seen) (gave : List Entry) : Type 0 where
  pub path : ℕ
  pub contact : Contact
  pub rest : List Entry
  pub asks : gave ≡ Ask path contact ∷ rest
  pub begins : s.receives ≡ 0
  pub settled : AllSettled setting.paths J
  pub none_before : NoneAsks setting path J
  pub ascends : AllByRecursion (λ e. path_number e ≤ path) s.since

-- where a receive begins a round, nothing is unsettled, and no path may ask
abbrev pub WaitsInTurn : Setting → List Entry → ℕ → Type 0
WaitsInTurn setting J zero = AllSettled setting.paths J × NoneAsks setting setting.paths J
WaitsInTurn setting J (suc n) = Unit {0}

-- an event stands where a round has it: a send where asks may stand, a receive where one may wait
abbrev pub InTurn : Setting → List Entry → Seen → Event → List Entry → Type 0
InTurn setting J s (Now at) gave = ⊥
InTurn setting J s (Sent to bytes) gave = AsksInTurn setting J s gave
InTurn setting J s (Unsent to bytes) gave = AsksInTurn setting J s gave
InTurn setting J s (Got from bytes until at) gave = WaitsInTurn setting J s.receives
InTurn setting J s (Quiet until at) gave = WaitsInTurn setting J s.receives

-- one event after the part P of the journal J: what was settled before it, and what it gave
pub record RoundStep (scheduling : Scheduling) (g : Given) (J P : List Entry) (s : Seen) (e : Event) : Type 0 where
  pub mid : Seen
  pub between : List Entry
  pub gave : List Entry
  pub gives : Gives g J s e mid
  pub given : mid.given ≡ s.given ++ gave
  pub settles : SettlesIn scheduling s.receives between
  pub in_turn : InTurn g.setting (P ++ between) s e gave

-- the events, one after another, after the part P of the journal J
abbrev pub RoundsFrom : Scheduling → Given → List Entry → List Entry → Seen → List Event → Type 0
RoundsFrom scheduling g J P s [] = (between : List Entry) × (J ≡ P ++ between) × SettlesIn scheduling s.receives between
RoundsFrom scheduling g J P s (e ∷ es) = (step : RoundStep scheduling g J P s e) × RoundsFrom scheduling g J ((P ++ step.between) ++ step.gave) step.mid es

-- The journal goes by rounds: it begins with its seeds, and at the end nothing is unsettled and no path may ask.
pub record Rounds (scheduling : Scheduling) (g : Given) (J : List Entry) (events : List Event) : Type 0 where
  pub at : ℕ
  pub rest : List Event
  pub first : events ≡ Now at ∷ rest
  pub goes : RoundsFrom scheduling g J (seeds J) (begun at) rest
  pub settled : AllSettled g.setting.paths J
  pub none_asks : NoneAsks g.setting g.setting.paths J
