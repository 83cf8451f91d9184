use Rattle.std.specs.Prelude.{◌≡◌, ◌⊎◌, ℕ, ◌+◌, ◌^◌, ◌<◌, ◌≤◌, List, ◌++◌, take, Option, Some, IfSome}
use Rattle.kad_base.specs.declared.types.Came.{Came}
use Rattle.kad_base.specs.declared.types.Came.TheVariants.{Packet, Quiet as Quiet_came}
use Rattle.kad_base.specs.declared.types.Event.{Event}
use Rattle.kad_base.specs.declared.types.Event.TheVariants.{Got, Quiet}

-- the content after is the content before and what was added, of which P holds
pub record Added {A : Type 0} (old : Option (List A)) (after : List A) (P : List A → Type 0) : Type 0 where
  pub before : List A
  pub added : List A
  pub was : old ≡ Some before
  pub sum_is : after ≡ before ++ added
  pub holds : P added

-- where the content is told after, it was told before, and P holds of what was added
abbrev pub Grows : {A : Type 0} → Option (List A) → Option (List A) → (List A → Type 0) → Type 0
Grows old new P = IfSome new (λ after. Added old after P)

-- where the rest is told after, it was told before, with these in front
abbrev pub Shrinks : {A : Type 0} → Option (List A) → Option (List A) → List A → Type 0
Shrinks old new front = IfSome new (λ rest. old ≡ Some (front ++ rest))

-- These events happened, whether the link tells them or not: where it does, it told these and no others.
pub record Happens (told told' : Option (List Event)) (P : List Event → Type 0) : Type 0 where
  pub events : List Event
  pub told_are : Grows told told' (λ es. es ≡ events)
  pub holds : P events

-- the count rose, or stands at its last value
abbrev pub Rose : ℕ → ℕ → Type 0
Rose old new = (old < new) ⊎ (2 ^ 64 ≤ new + 1)

-- the event of a receive
abbrev pub EventOf : Came → ℕ → List ℕ → Event
EventOf (Packet from len at) until buf = Got from (take len buf) until at
EventOf (Quiet_came at) until buf = Quiet until at

abbrev pub came_at : Came → ℕ
came_at (Packet from len at) = at
came_at (Quiet_came at) = at

-- a receive gives a packet that fits, or tells a moment that is past until; no moment is before the last
abbrev pub Arrives : Came → ℕ → ℕ → ℕ → Type 0
Arrives (Packet from len at) until moment room = (len ≤ room) × (moment ≤ at)
Arrives (Quiet_came at) until moment room = (until ≤ at) × (moment ≤ at)
