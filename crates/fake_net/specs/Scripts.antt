-- A link in memory that plays a script. Its rules are this project's own; what a datagram says and how a message is
-- written are KRPC's (BEP 5).
use Rattle.std.specs.Prelude.{◌≡◌, ◌≢◌, ℕ, ◌+◌, ◌-◌, ◌^◌, ◌<◌, ◌≤◌, min, max, Bool, List, [], ◌∷◌, ◌++◌, length, take, drop, All, Any, Option, Some, None, slice_get, MatchOption}
use Rattle.std.specs.List.{AllWithin}
use Rattle.kad_base.specs.declared.types.Addr.{Addr}
use Rattle.kad_base.specs.declared.types.Proof.{Proof}
use Rattle.kad_base.specs.declared.types.Came.{Came}
use Rattle.kad_base.specs.declared.types.Came.TheVariants.{Packet, Quiet}
use Rattle.kad_base.specs.declared.types.Event.{Event}
use Rattle.kad_krpc.specs.declared.message.Message.{Message}
use Rattle.kad_krpc.specs.declared.message.Message.TheVariants as message
use Rattle.kad_krpc.specs.declared.message.Ask.{Ask}
use Rattle.kad_krpc.specs.Reading.{Says}
use Rattle.kad_krpc.specs.Form.{IsWritable, form}
use Rattle.fake_net.specs.declared.script.SentQuery.{SentQuery}
use Rattle.fake_net.specs.declared.script.ScriptEvent.{ScriptEvent}
use Rattle.fake_net.specs.declared.script.ScriptEvent.TheVariants.{Deliver, ToQuery}

-- what a link holds: what is left of the script, the queries that were sent, oldest first, the last told moment, how
-- many sends and receives were made, which of them fail, what happened, if it is told, and how many failed
pub record Play : Type 0 where
  pub script : List ScriptEvent
  pub queries : List SentQuery
  pub moment : ℕ
  pub sends : ℕ
  pub receives : ℕ
  pub failing_sends : List ℕ
  pub failing_receives : List ℕ
  pub told : Option (List Event)
  pub send_faults : ℕ
  pub recv_faults : ℕ

-- a count stops at 2^64 - 1
abbrev pub one_more : ℕ → ℕ
one_more n = min (n + 1) (2 ^ 64 - 1)

-- what sends change is as before
pub record SameSends (old new : Play) : Type 0 where
  pub queries : new.queries ≡ old.queries
  pub sends : new.sends ≡ old.sends
  pub failing : new.failing_sends ≡ old.failing_sends
  pub faults : new.send_faults ≡ old.send_faults

-- what receives change, the moment and the transcript apart, is as before
pub record SameReceives (old new : Play) : Type 0 where
  pub script : new.script ≡ old.script
  pub receives : new.receives ≡ old.receives
  pub failing : new.failing_receives ≡ old.failing_receives
  pub faults : new.recv_faults ≡ old.recv_faults

-- ---- queries

-- the bytes say a query under the transaction id
pub record SaysQuery (bytes tx : List ℕ) : Type 0 where
  pub read_only : Bool
  pub proof : Option Proof
  pub ask : Ask
  pub says : Says bytes (message.Query tx read_only proof ask)

-- the bytes say a query
pub record IsQuery (bytes : List ℕ) : Type 0 where
  pub tx : List ℕ
  pub says : SaysQuery bytes tx

-- the transaction id of a query
abbrev pub query_tx : Message → Option (List ℕ)
query_tx (message.Query tx read_only proof ask) = Some tx
query_tx (message.Answer tx answer) = None
query_tx (message.Fault tx code text) = None

-- where the bytes say a query it is the last one sent; else none was added
pub record Asks (to : Addr) (bytes : List ℕ) (old new : List SentQuery) : Type 0 where
  pub query : (tx : List ℕ) → SaysQuery bytes tx → new ≡ old ++ record { to = to; tx = tx } ∷ []
  pub other : ((tx : List ℕ) → ¬ SaysQuery bytes tx) → new ≡ old

-- the query at the place is the first that was sent to the address
pub record IsFirstTo (to : Addr) (queries : List SentQuery) (place : ℕ) (query : SentQuery) : Type 0 where
  pub here : slice_get queries place ≡ Some query
  pub is_to : query.to ≡ to
  pub before : AllWithin (λ q. q.to ≢ to) queries 0 place

-- some query is at the place, and is that first one
pub record IsFirstAt (to : Addr) (queries : List SentQuery) (place : ℕ) : Type 0 where
  pub query : SentQuery
  pub first : IsFirstTo to queries place query

-- ---- the script

-- an answer that is to be given has a written form; the bytes of a datagram may be any
abbrev pub IsWritableEvent : ScriptEvent → Type 0
IsWritableEvent (Deliver at from bytes times) = Unit {0}
IsWritableEvent (ToQuery to at from m) = IsWritable m

-- when the event may come, at the earliest
abbrev pub moment_of : ScriptEvent → ℕ
moment_of (Deliver at from bytes times) = at
moment_of (ToQuery to at from m) = at

-- bytes that have times left; an answer, once a query was sent to the address
abbrev pub IsReady : List SentQuery → ScriptEvent → Type 0
IsReady queries (Deliver at from bytes times) = 0 < times
IsReady queries (ToQuery to at from m) = Any (λ q. q.to ≡ to) queries

-- the event at the place is ready by then; each ready one before it is later, and no ready one is sooner
pub record IsNext (queries : List SentQuery) (until : ℕ) (script : List ScriptEvent) (place : ℕ) (event : ScriptEvent) : Type 0 where
  pub here : slice_get script place ≡ Some event
  pub ready : IsReady queries event
  pub soon : moment_of event ≤ until
  pub first : AllWithin (λ e. IsReady queries e → moment_of event < moment_of e) script 0 place
  pub earliest : All (λ e. IsReady queries e → moment_of event ≤ moment_of e) script

-- none is ready by then
abbrev pub NoneNext : List SentQuery → ℕ → List ScriptEvent → Type 0
NoneNext queries until script = All (λ e. IsReady queries e → until < moment_of e) script

-- some event is at the place, and is the next by then
pub record IsNextAt (queries : List SentQuery) (until : ℕ) (script : List ScriptEvent) (place : ℕ) : Type 0 where
  pub event : ScriptEvent
  pub next : IsNext queries until script place event

-- the place of the next by then, if there is one
abbrev pub Finds : List SentQuery → ℕ → List ScriptEvent → Option ℕ → Type 0
Finds queries until script found = MatchOption found (NoneNext queries until script) (IsNextAt queries until script)

-- the message under another transaction id
abbrev pub under : List ℕ → Message → Message
under tx (message.Query old read_only proof ask) = message.Query tx read_only proof ask
under tx (message.Answer old answer) = message.Answer tx answer
under tx (message.Fault old code text) = message.Fault tx code text

-- the message, under the transaction id of the first query to the address, is written so
pub record Answers (queries : List SentQuery) (to : Addr) (m : Message) (bytes : List ℕ) : Type 0 where
  pub place : ℕ
  pub query : SentQuery
  pub first : IsFirstTo to queries place query
  pub written : bytes ≡ form (under query.tx m)

-- the datagram that an event delivers
abbrev pub Carries : List SentQuery → ScriptEvent → Addr → List ℕ → Type 0
Carries queries (Deliver at sender content times) from bytes = (sender ≡ from) × (bytes ≡ content)
Carries queries (ToQuery to at sender m) from bytes = (sender ≡ from) × Answers queries to m bytes

-- what is left of an event once it has delivered: bytes have one time less, and an answer is given once
abbrev pub left_of : ScriptEvent → List ScriptEvent
left_of (Deliver at from bytes times) = Deliver at from bytes (times - 1) ∷ []
left_of (ToQuery to at from m) = []

-- the script once the event at the place has delivered
abbrev pub spent : List ScriptEvent → ℕ → ScriptEvent → List ScriptEvent
spent script place event = take place script ++ left_of event ++ drop (place + 1) script

-- ---- receives

-- the event's datagram is in front of the buffer, cut to the room
pub record Puts (queries : List SentQuery) (event : ScriptEvent) (room : ℕ) (buf : List ℕ) (from : Addr) (len : ℕ) : Type 0 where
  pub bytes : List ℕ
  pub carries : Carries queries event from bytes
  pub len_is : len ≡ min (length bytes) room
  pub cut : take len buf ≡ take len bytes

-- a datagram came: that of the next event; the moment is the later of the event's and the last one
pub record Delivers (queries : List SentQuery) (script : List ScriptEvent) (moment until room : ℕ) (buf : List ℕ) (after : List ScriptEvent) (from : Addr) (len at : ℕ) : Type 0 where
  pub place : ℕ
  pub event : ScriptEvent
  pub next : IsNext queries until script place event
  pub puts : Puts queries event room buf from len
  pub at_is : at ≡ max (moment_of event) moment
  pub left : after ≡ spent script place event

-- an event that has to be written first
abbrev pub IsAnswer : ScriptEvent → Type 0
IsAnswer (Deliver at from bytes times) = ⊥
IsAnswer (ToQuery to at from m) = Unit {0}

-- the next event has to be written first
pub record AnswerNext (queries : List SentQuery) (script : List ScriptEvent) (until : ℕ) : Type 0 where
  pub place : ℕ
  pub event : ScriptEvent
  pub next : IsNext queries until script place event
  pub is_answer : IsAnswer event

-- none came: no event is ready by then, and the moment is the later of `until` and the last one
pub record Waits (queries : List SentQuery) (script : List ScriptEvent) (moment until : ℕ) (after : List ScriptEvent) (at : ℕ) : Type 0 where
  pub nothing : NoneNext queries until script
  pub at_is : at ≡ max until moment
  pub left : after ≡ script

-- what a receive gives, given the queries that were sent, the script, the last moment, the moment to wait until and the
-- length of the buffer; and the buffer and the script after it
abbrev pub Receives : List SentQuery → List ScriptEvent → ℕ → ℕ → ℕ → List ℕ → List ScriptEvent → Came → Type 0
Receives queries script moment until room buf after (Packet from len at) = Delivers queries script moment until room buf after from len at
Receives queries script moment until room buf after (Quiet at) = Waits queries script moment until after at

-- a datagram fits into the room
abbrev pub IsWithin : Came → ℕ → Type 0
IsWithin (Packet from len at) room = len ≤ room
IsWithin (Quiet at) room = Unit {0}
