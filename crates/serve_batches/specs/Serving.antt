-- One batch, and all of them, as the code has them; no public contract speaks of these.
use Rattle.std.specs.Prelude.{◌≡◌, ◌⊎◌, ℕ, ◌+◌, ◌<◌, true, List, ◌++◌, length, slice_index_or, Option}
use Rattle.std.specs.List.{All, flat_map}
use Rattle.kad_base.specs.declared.types.Event.{Event}
use Rattle.serve_batches.specs.Deal.{dealt}
use Rattle.node_serve.specs.Calls.{Did}
use Rattle.node_serve.specs.Lasting.{is_over}
use Rattle.node_serve.specs.Receives.{got_in, sent_in}
use Rattle.node_serve.specs.Sealing.{Tags}
use Rattle.node_serve.specs.declared.service.ServeFault.{ServeFault}
use Rattle.node_serve.specs.declared.setting.ServeSetting.{ServeSetting}
use Rattle.serve_crew.specs.Hands.{Hands, SameHands, Grew}
use Rattle.serve_batches.specs.Batches.{Done, IsDone, IsBatch, Batches, calls_for}
use Rattle.serve_batches.specs.ManyServed.{EndsEarly}
use Rattle.serve_batches.specs.declared.batch.Progress.{Progress}
use Rattle.serve_batches.specs.declared.shift.Shift.{Shift}

-- a service that has received nothing
abbrev pub begun : ℕ → ℕ → Progress
begun began receives = record { moment = began; left = receives; received = 0; replied = 0 }

-- each worker has the roles of the turns that it had
abbrev pub SameRoles : List Shift → List Shift → Type 0
SameRoles old new = (w : ℕ) (d : Shift) → w < length old → SameHands (slice_index_or old w d).worker (slice_index_or new w d).worker

-- each worker's own calls grew
abbrev pub GrewSome : List Shift → List Shift → Type 0
GrewSome old new = (w : ℕ) (d : Shift) → w < length old → (did : List Did) × Grew (slice_index_or old w d).worker (slice_index_or new w d).worker did

-- a batch was served
pub record ServesBatch (tag_of : Tags) (limit : Option ℕ) (s : ServeSetting) (p q : Progress) (old new : List Shift) (events : List Event) : Type 0 where
  pub batch : List Done
  pub is : IsBatch limit p.left p.moment batch events q.left q.moment
  pub done : All (IsDone tag_of s) batch
  pub grew : (w : ℕ) (d : Shift) → w < length old → Grew (slice_index_or old w d).worker (slice_index_or new w d).worker (flat_map (λ x. x.did) (dealt (length old) w batch))
  pub received_are : q.received ≡ p.received + got_in events
  pub replied_are : q.replied ≡ p.replied + sent_in events

-- and so many, one after another
pub record ServesBatches (tag_of : Tags) (limit : Option ℕ) (s : ServeSetting) (p q : Progress) (old new : List Shift) (events : List Event) : Type 0 where
  pub batches : List (List Done)
  pub are : Batches limit p.left p.moment batches events q.left q.moment
  pub done : All (All (IsDone tag_of s)) batches
  pub grew : (w : ℕ) (d : Shift) → w < length old → Grew (slice_index_or old w d).worker (slice_index_or new w d).worker (calls_for (length old) w batches)
  pub received_are : q.received ≡ p.received + got_in events
  pub replied_are : q.replied ≡ p.replied + sent_in events

-- all were, until no receive was left or the service was over, and so many datagrams came and so many replies were sent
pub record ServesAll (tag_of : Tags) (limit : Option ℕ) (s : ServeSetting) (p : Progress) (received replied : ℕ) (old new : List Shift) (events : List Event) : Type 0 where
  pub left : ℕ
  pub moment : ℕ
  pub ended : (left ≡ 0) ⊎ (is_over limit moment ≡ true)
  pub served : ServesBatches tag_of limit s p (record { moment = moment; left = left; received = received; replied = replied }) old new events

-- these calls, and maybe more
abbrev pub GrewFirst : Hands → Hands → List Did → Type 0
GrewFirst old new did = (rest : List Did) × Grew old new (did ++ rest)

-- some were, and then it ended
pub record StopsServing (tag_of : Tags) (limit : Option ℕ) (s : ServeSetting) (p : Progress) (old new : List Shift) (fault : ServeFault) (events : List Event) : Type 0 where
  pub batches : List (List Done)
  pub front : List Event
  pub left : ℕ
  pub moment : ℕ
  pub are : Batches limit p.left p.moment batches front left moment
  pub done : All (All (IsDone tag_of s)) batches
  pub grew : (w : ℕ) (d : Shift) → w < length old → GrewFirst (slice_index_or old w d).worker (slice_index_or new w d).worker (calls_for (length old) w batches)
  pub last : List Event
  pub whole : events ≡ front ++ last
  pub ended : EndsEarly fault limit left moment last
