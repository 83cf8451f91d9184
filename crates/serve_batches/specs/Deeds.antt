-- What is fixed while a node serves, and what is done to a shift then.
use Rattle.std.specs.Prelude.{◌≡◌, ℕ, ◌≤◌, ◌<◌, List, length, slice_index_or, Option, Some}
use Rattle.node_serve.specs.Calls.{IsSetting}
use Rattle.node_serve.specs.Sealing.{Tags}
use Rattle.node_serve.specs.declared.setting.ServeSetting.{ServeSetting}
use Rattle.serve_crew.specs.Hands.{CanWork}
use Rattle.serve_crew.specs.declared.turns.Turns.{Turns}
use Rattle.serve_batches.specs.Crew.{Worked}
use Rattle.serve_batches.specs.Ring.{share}
use Rattle.serve_batches.specs.declared.place.Place.{Place}
use Rattle.serve_batches.specs.declared.shift.Shift.{Shift}

-- the seal's tags, the setting, and the turns
pub record Known : Type 0 where
  pub tag_of : Tags
  pub setting : ServeSetting
  pub turns : Turns

abbrev pub known : Tags → ServeSetting → Turns → Known
known tag_of s turns = record { tag_of = tag_of; setting = s; turns = turns }

-- these are fixed, whatever the setting is
abbrev pub Serves : Option Known → Tags → Turns → Type 0
Serves o tag_of turns = (k : Known) → o ≡ Some k → (tag_of ≡ k.tag_of) × (turns ≡ k.turns)

-- this is the setting
abbrev pub HasSetting : Option Known → ServeSetting → Type 0
HasSetting o s = (k : Known) → o ≡ Some k → s ≡ k.setting

-- the shift is of these turns, and has a slot for each datagram that it is given
abbrev pub MayWork : Option Known → Shift → Type 0
MayWork o s = (k : Known) × (o ≡ Some k) × IsSetting k.setting × CanWork k.turns s.worker × (s.given ≤ length s.slots.items)

-- its worker answered them
abbrev pub DidWork : Option Known → Shift → Shift → Type 0
DidWork o old new = (k : Known) → o ≡ Some k → Worked k.tag_of k.setting old.given old new

-- a worker is told how many datagrams it has
pub record IsTold (given : ℕ) (old new : Shift) : Type 0 where
  pub worker : new.worker ≡ old.worker
  pub slots : new.slots ≡ old.slots
  pub given_is : new.given ≡ given

-- each worker is, where the next datagram would go to this place
abbrev pub AllTold : Place → List Shift → List Shift → Type 0
AllTold p old new = (w : ℕ) (d : Shift) → w < length old → IsTold (share p w) (slice_index_or old w d) (slice_index_or new w d)
