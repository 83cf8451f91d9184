-- What a network plays: all events of a link to it, from the first on. This project's own.
use Rattle.std.specs.Prelude.{◌≡◌, ℕ, ◌+◌, List, [], ◌∷◌, ◌++◌, Bool, true, Option, Some, None}
use Rattle.kad_base.specs.declared.types.Addr.{Addr}
use Rattle.kad_base.specs.declared.types.Came.{Came}
use Rattle.kad_base.specs.declared.types.Event.{Event}
use Rattle.kad_base.specs.declared.types.Event.TheVariants.{Now, Sent, Unsent, Got, Quiet}
use Rattle.kad_base.specs.Limits.{max_datagram}
use Rattle.kad_base.specs.Outside.{EventOf, came_at}
use Rattle.fake_net.specs.declared.waiting.Waiting.{Waiting}
use Rattle.fake_net.specs.Network.{Network}
use Rattle.fake_net.specs.Queue.{Gets, QueuedBy}

-- The network plays the events, and then stands at the moment while these answers wait. It begins at moment 0, and none
-- waits. Asked for the moment it tells the last one. No send fails, and what the datagram brings about waits after the
-- others. A receive gives the answer that comes first by then, which waits no longer, or is quiet. Where the receives are
-- wide, each has room for one byte more than the longest datagram that is believed; else any room.
pub data PlaysTo (net : Network) (wide : Bool) : List Event → ℕ → List Waiting → Type 0 where
  begins : PlaysTo net wide [] 0 []
  tells : {events : List Event} {moment : ℕ} {waiting : List Waiting} → PlaysTo net wide events moment waiting
      → PlaysTo net wide (events ++ Now moment ∷ []) moment waiting
  sends : {events : List Event} {moment : ℕ} {waiting after : List Waiting} (to : Addr) (bytes : List ℕ) → PlaysTo net wide events moment waiting
      → QueuedBy net moment to bytes waiting after → PlaysTo net wide (events ++ Sent to bytes ∷ []) moment after
  receives : {events : List Event} {moment : ℕ} {waiting after : List Waiting} (until room : ℕ) (buf : List ℕ) (came : Came) → (wide ≡ true → room ≡ max_datagram + 1)
      → PlaysTo net wide events moment waiting → Gets waiting moment until room buf after came → PlaysTo net wide (events ++ EventOf came until buf ∷ []) (came_at came) after

-- the network plays the events
pub record Plays (net : Network) (wide : Bool) (events : List Event) : Type 0 where
  pub moment : ℕ
  pub waiting : List Waiting
  pub plays : PlaysTo net wide events moment waiting

-- what a link to a network keeps while each receive has that room: which network it is, and that each had it
pub record SimKept : Type 0 where
  pub network : Network
  pub wide : Bool

-- the moment that an event's receive waits for, if it is a receive's
abbrev pub until_of : Event → Option ℕ
until_of (Now at) = None
until_of (Sent to bytes) = None
until_of (Unsent to bytes) = None
until_of (Got from bytes until at) = Some until
until_of (Quiet until at) = Some until
