-- What contracts see of a slot, and what a worker does with slots, as the code has it.
use Rattle.std.specs.Prelude.{◌≡◌, ℕ, ◌≤◌, ◌==◌, List, [], ◌∷◌, map, take, Option, Some, None}
use Rattle.std.specs.List.{All, flat_map}
use Rattle.kad_base.specs.declared.types.Addr.{Addr}
use Rattle.kad_base.specs.declared.types.Came.{Came}
use Rattle.kad_base.specs.declared.types.Came.TheVariants.{Packet, Quiet as Quiet_came}
use Rattle.kad_base.specs.declared.types.Event.{Event}
use Rattle.kad_base.specs.declared.types.Event.TheVariants.{Quiet}
use Rattle.node_serve.specs.Calls.{Did}
use Rattle.node_serve.specs.Sealing.{Tags}
use Rattle.node_serve.specs.declared.node.Answered.{Answered}
use Rattle.node_serve.specs.declared.node.Answered.TheVariants.{Reply as Reply_owed, NoMemory}
use Rattle.node_serve.specs.declared.setting.ServeSetting.{ServeSetting}
use Rattle.serve_crew.specs.Answered.{IsAnswered}
use Rattle.serve_crew.specs.Hands.{Hands, Grew}
use Rattle.serve_batches.specs.Batches.{Datagram, receives_of, sent_for}

-- a datagram, and what became of it
pub record SlotState : Type 0 where
  pub from : Addr
  pub at : ℕ
  pub bytes : List ℕ
  pub answered : Answered
  pub out : List ℕ

abbrev pub datagram_in : SlotState → Datagram
datagram_in s = record { from = s.from; bytes = s.bytes; at = s.at }

-- the reply that is owed
abbrev pub reply_by : Answered → List ℕ → Option (List ℕ)
reply_by (Reply_owed n) out = Some (take n out)
reply_by other out = None

abbrev pub reply_in : SlotState → Option (List ℕ)
reply_in s = reply_by s.answered s.out

-- a reply fits
abbrev pub Fits : Answered → Type 0
Fits (Reply_owed n) = n ≤ 4096
Fits other = Unit {0}

-- there was memory to answer, where an answer is owed
abbrev pub Went : Answered → Type 0
Went NoMemory = ⊥
Went other = Unit {0}

-- ---- receives

-- a datagram that came is in the slot
abbrev pub Took : Came → SlotState → Type 0
Took (Packet from len at) s = s.at ≡ at
Took (Quiet_came at) s = Unit {0}

-- what the link tells of it
abbrev pub took_event : Came → ℕ → Datagram → List Event
took_event (Packet from len at) until d = receives_of until (d ∷ [])
took_event (Quiet_came at) until d = Quiet until at ∷ []

-- ---- answers

-- a slot that was answered, and the calls that were made for it
pub record Handled : Type 0 where
  pub slot : SlotState
  pub did : List Did

abbrev pub IsHandled : Tags → ServeSetting → Handled → Type 0
IsHandled tag_of s h = IsAnswered tag_of s h.slot.from h.slot.bytes h.slot.at h.slot.answered h.slot.out h.did

-- one was answered
pub record AnswersOne (tag_of : Tags) (s : ServeSetting) (old new : Hands) (given slot : SlotState) : Type 0 where
  pub same : datagram_in slot ≡ datagram_in given
  pub did : List Did
  pub handled : IsHandled tag_of s (record { slot = slot; did = did })
  pub grew : Grew old new did

-- all were, in order, and the worker's own calls grew by just theirs
pub record AnswersAll (tag_of : Tags) (s : ServeSetting) (old new : Hands) (given slots : List SlotState) : Type 0 where
  pub all : List Handled
  pub slots_are : map (λ h. h.slot) all ≡ slots
  pub same : map datagram_in slots ≡ map datagram_in given
  pub handled : All (IsHandled tag_of s) all
  pub grew : Grew old new (flat_map (λ h. h.did) all)

-- ---- sends

-- what was sent for a slot, where so many were sent
abbrev pub sends_of : SlotState → ℕ → List Event
sends_of slot n = sent_for (n == 1) slot.from (reply_in slot)
