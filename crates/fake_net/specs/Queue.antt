-- Answers that wait to be received: what a receive gives, and what is left. This project's own.
use Rattle.std.specs.Prelude.{◌≡◌, ℕ, ◌<◌, ◌≤◌, min, max, List, ◌++◌, length, take, remove, All, Bool, Option, Some, slice_get, MatchOption}
use Rattle.std.specs.List.{AllWithin}
use Rattle.kad_base.specs.declared.types.Addr.{Addr}
use Rattle.kad_base.specs.declared.types.Came.{Came}
use Rattle.kad_base.specs.declared.types.Came.TheVariants.{Packet, Quiet}
use Rattle.kad_base.specs.declared.types.Event.{Event}
use Rattle.fake_net.specs.declared.waiting.Waiting.{Waiting}
use Rattle.fake_net.specs.Network.{Network}
use Rattle.fake_net.specs.Replies.{BringsAbout}

-- what a network holds: what it follows from, the last told moment, what happened, if it is told, the answers that wait,
-- in the order in which they were sent for, and whether each receive had room for all that is believed
pub record SimState : Type 0 where
  pub network : Network
  pub moment : ℕ
  pub told : Option (List Event)
  pub waiting : List Waiting
  pub wide : Bool

-- the answer at the place is the next by then: each before it in the list comes later, and none comes sooner
pub record IsNextWaiting (waiting : List Waiting) (until place : ℕ) (answer : Waiting) : Type 0 where
  pub here : slice_get waiting place ≡ Some answer
  pub soon : answer.at ≤ until
  pub first : AllWithin (λ w. answer.at < w.at) waiting 0 place
  pub earliest : All (λ w. answer.at ≤ w.at) waiting

-- none comes by then
abbrev pub NoneWaits : List Waiting → ℕ → Type 0
NoneWaits waiting until = All (λ w. until < w.at) waiting

-- some answer is at the place, and is the next by then
pub record IsNextWaitingAt (waiting : List Waiting) (until place : ℕ) : Type 0 where
  pub answer : Waiting
  pub next : IsNextWaiting waiting until place answer

-- the place of the next by then, if there is one
abbrev pub FindsNext : List Waiting → ℕ → Option ℕ → Type 0
FindsNext waiting until found = MatchOption found (NoneWaits waiting until) (IsNextWaitingAt waiting until)

-- a datagram came: that of the next answer, cut to the room; the moment is the later of the answer's and the last one, and
-- the other answers go on waiting
pub record Brings (waiting : List Waiting) (moment until room : ℕ) (buf : List ℕ) (after : List Waiting) (from : Addr) (len at : ℕ) : Type 0 where
  pub place : ℕ
  pub answer : Waiting
  pub next : IsNextWaiting waiting until place answer
  pub from_is : from ≡ answer.from
  pub len_is : len ≡ min (length answer.bytes) room
  pub cut : take len buf ≡ take len answer.bytes
  pub at_is : at ≡ max answer.at moment
  pub left : after ≡ remove waiting place

-- none came: none comes by then, and the moment is the later of `until` and the last one
pub record IsQuiet (waiting : List Waiting) (moment until : ℕ) (after : List Waiting) (at : ℕ) : Type 0 where
  pub nothing : NoneWaits waiting until
  pub at_is : at ≡ max until moment
  pub left : after ≡ waiting

-- what a receive gives, given the answers that wait, the last moment, the moment to wait until and the length of the
-- buffer; and the buffer and what waits after it
abbrev pub Gets : List Waiting → ℕ → ℕ → ℕ → List ℕ → List Waiting → Came → Type 0
Gets waiting moment until room buf after (Packet from len at) = Brings waiting moment until room buf after from len at
Gets waiting moment until room buf after (Quiet at) = IsQuiet waiting moment until after at

-- what waits after a send: what waited before, and then the answers that its datagram brings about
pub record QueuedBy (net : Network) (moment : ℕ) (to : Addr) (bytes : List ℕ) (old new : List Waiting) : Type 0 where
  pub answers : List Waiting
  pub brought : BringsAbout net moment to bytes answers
  pub behind : new ≡ old ++ answers
