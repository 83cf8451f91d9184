-- Workers with their slots: how a batch is received into them, answered and sent, as the code has it.
use Rattle.std.specs.Prelude.{◌≡◌, ◌≢◌, ℕ, ◌*◌, ◌<◌, ◌≤◌, Bool, List, [], ◌∷◌, ◌++◌, length, map, take, set, slice_index_or, Option}
use Rattle.std.specs.List.{All}
use Rattle.kad_base.specs.declared.types.Addr.{Addr}
use Rattle.kad_base.specs.declared.types.Ip.TheVariants.{V4}
use Rattle.kad_base.specs.declared.types.Event.{Event}
use Rattle.serve_batches.specs.Ring.{share, in_order, item_at}
use Rattle.serve_batches.specs.declared.place.Place.{Place}
use Rattle.node_serve.specs.Receives.{sent_in, got_in}
use Rattle.node_serve.specs.Sealing.{Tags}
use Rattle.node_serve.specs.declared.node.Answered.TheVariants.{Silent}
use Rattle.node_serve.specs.declared.setting.ServeSetting.{ServeSetting}
use Rattle.serve_crew.specs.Hands.{Hands, SameHands}
use Rattle.serve_batches.specs.Batches.{Datagram, Receives, sent_for}
use Rattle.serve_batches.specs.Slots.{SlotState, datagram_in, reply_in, AnswersAll, Went}
use Rattle.serve_batches.specs.declared.receiving.Received.{Received}
use Rattle.serve_batches.specs.declared.shift.Shift.{Shift}

-- ---- what a crew has

-- the slots of each worker
abbrev pub slots_of : List Shift → ℕ → List SlotState
slots_of crew w = slice_index_or (map (λ s. s.slots.items) crew) w []

-- the datagrams in them
abbrev pub datagrams_of : List Shift → ℕ → List Datagram
datagrams_of crew w = map datagram_in (slots_of crew w)

-- what stands for what isn't there
abbrev pub nowhere : Addr
nowhere = record { ip = V4 []; port = 0 }

abbrev pub no_datagram : Datagram
no_datagram = record { from = nowhere; bytes = []; at = 0 }

abbrev pub no_slot : SlotState
no_slot = record { from = nowhere; at = 0; bytes = []; answered = Silent; out = [] }

-- the slots of the first m datagrams, in the order in which they came
abbrev pub batch_slots : List Shift → ℕ → List SlotState
batch_slots crew m = in_order (length crew) no_slot (slots_of crew) m

abbrev pub batch_datagrams : List Shift → ℕ → List Datagram
batch_datagrams crew m = in_order (length crew) no_datagram (datagrams_of crew) m

abbrev pub slot_at : List Shift → Place → SlotState
slot_at crew p = item_at no_slot (slots_of crew) p

-- all slots together have room for a batch
abbrev pub HasSlots : ℕ → Shift → Type 0
HasSlots n s = 32 ≤ length s.slots.items * n

abbrev pub AreRoomy : List Shift → Type 0
AreRoomy crew = All (HasSlots (length crew)) crew

-- the workers are as they were, and have as many slots
pub record SameCrew (old new : List Shift) : Type 0 where
  pub len : length new ≡ length old
  pub workers : (w : ℕ) (d : Shift) → w < length old → (slice_index_or new w d).worker ≡ (slice_index_or old w d).worker
  pub slots : (w : ℕ) → length (slots_of new w) ≡ length (slots_of old w)

-- ---- receives

-- a datagram was put into the slot at a place, and all others are as they were
pub record PutAt (p : Place) (old new : List Shift) : Type 0 where
  pub here : datagrams_of new p.holder ≡ set (datagrams_of old p.holder) p.round (datagram_in (slot_at new p))
  pub others : (w : ℕ) → w ≢ p.holder → datagrams_of new w ≡ datagrams_of old w

-- ---- answers

-- each worker has slots for its share, where the next datagram would go to this place
abbrev pub HasShares : Place → List Shift → Type 0
HasShares p crew = (w : ℕ) (d : Shift) → w < length crew → share p w ≤ length (slice_index_or crew w d).slots.items

-- a worker answered the datagrams of its first slots
pub record Worked (tag_of : Tags) (s : ServeSetting) (given : ℕ) (old new : Shift) : Type 0 where
  pub same : SameHands old.worker new.worker
  pub len : length new.slots.items ≡ length old.slots.items
  pub answers : AnswersAll tag_of s old.worker new.worker (take given old.slots.items) (take given new.slots.items)

-- each worker did, where the next datagram would go to this place
abbrev pub AllWorked : Tags → ServeSetting → Place → List Shift → List Shift → Type 0
AllWorked tag_of s p old new = (w : ℕ) (d : Shift) → w < length old → Worked tag_of s (share p w) (slice_index_or old w d) (slice_index_or new w d)

-- there was memory for all answers
abbrev pub AllWent : List SlotState → Type 0
AllWent slots = All (λ s. Went s.answered) slots

-- ---- sends

-- what was sent for the datagrams in slots, in their order
abbrev pub SendsFor : List SlotState → List Event → Type 0
SendsFor [] events = events ≡ []
SendsFor (s ∷ slots) events = (was_sent : Bool) × (more : List Event) × (events ≡ sent_for was_sent s.from (reply_in s) ++ more) × SendsFor slots more

-- and how many it were; nothing came
pub record SendsAll (slots : List SlotState) (sent : ℕ) (events : List Event) : Type 0 where
  pub are : SendsFor slots events
  pub sent_are : sent ≡ sent_in events
  pub none_got : got_in events ≡ 0

-- ---- one batch

-- a batch was received: where the next datagram would go, how many came, in how many receives, and the moment told last
abbrev pub IsReceived : Option ℕ → ℕ → ℕ → Received → List Shift → List Event → Type 0
IsReceived limit left moment b crew events = Receives limit left moment (batch_datagrams crew b.came) events b.made b.moment
