-- The receive calls of a node that serves: each query among the datagrams which came was answered by the reply that a node owes
-- it (BEP 5), as the datagrams before had left the node, and nothing else was sent.
use Rattle.std.specs.Prelude.{◌≡◌, ◌⊎◌, ℕ, zero, suc, ◌<◌, ◌≤◌, Bool, true, false, List, [], ◌∷◌, ◌++◌, length, filter, Option}
use Rattle.kad_base.specs.declared.types.Addr.{Addr}
use Rattle.kad_base.specs.declared.types.Event.{Event}
use Rattle.kad_base.specs.declared.types.Event.TheVariants.{Got, Quiet, Sent, Unsent}
use Rattle.contact_table.specs.TableState.{TableState}
use Rattle.kad_krpc.specs.declared.message.Message.{Message}
use Rattle.node_serve.specs.AnswerOf.{AnswerOf, EndsEarly}
use Rattle.node_serve.specs.Lasting.{end_of, is_over, waits_to}
use Rattle.node_serve.specs.NodeState.{NodeState}
use Rattle.node_serve.specs.Queries.{IsSilent}
use Rattle.node_serve.specs.Sealing.{Tags, sent_form}
use Rattle.node_serve.specs.declared.lasting.Lasting.{Lasting}

-- ---- what is sent

-- the event of a send: it went out, or the link refused it
abbrev pub tried : Bool → Addr → List ℕ → Event
tried true to bytes = Sent to bytes
tried false to bytes = Unsent to bytes

abbrev pub is_sent : Event → Bool
is_sent (Sent to bytes) = true
is_sent other = false

-- how many datagrams were sent, those aside that the link refused
abbrev pub sent_in : List Event → ℕ
sent_in events = length (filter is_sent events)

-- ---- the receive calls

-- a node, and the last moment that its link told
pub record ServeState : Type 0 where
  pub node : NodeState
  pub moment : ℕ

-- What follows a datagram: nothing where no reply is owed, and the node stays as it was; else its reply was sent to its
-- source, or the link refused it; a sealed node sends it with the tag that its seal gives.
pub data Responds (tag_of : Tags) (s : NodeState) (from : Addr) (bytes : List ℕ) (at : ℕ) (events : List Event) (next : NodeState) : Type 0 where
  silent : IsSilent from bytes → events ≡ [] → next ≡ s → Responds tag_of s from bytes at events next
  answered : (reply : Message) (was_sent : Bool) → AnswerOf s from bytes at reply next → events ≡ tried was_sent from (sent_form tag_of s.sealed s.own reply) ∷ [] → Responds tag_of s from bytes at events next

-- one receive call of a service with this end: nothing came, or a datagram with what follows it
pub data ServesOne (tag_of : Tags) (limit : Option ℕ) (s : ServeState) (events : List Event) (t : ServeState) : Type 0 where
  quiet : events ≡ Quiet (waits_to limit s.moment) t.moment ∷ [] → t.node ≡ s.node → ServesOne tag_of limit s events t
  came : (from : Addr) (bytes : List ℕ) (then : List Event) → events ≡ Got from bytes (waits_to limit s.moment) t.moment ∷ then
      → Responds tag_of s.node from bytes t.moment then t.node → ServesOne tag_of limit s events t

-- so many of them, one after another, each made while the service isn't over
abbrev pub Serves : Tags → Option ℕ → ℕ → ServeState → List Event → ServeState → Type 0
Serves tag_of limit zero s events t = (events ≡ []) × (t ≡ s)
Serves tag_of limit (suc n) s events t =
    (one : List Event) × (u : ServeState) × (more : List Event) × (events ≡ one ++ more) × (is_over limit s.moment ≡ false) × ServesOne tag_of limit s one u × Serves tag_of limit n u more t

-- a query came, while the service wasn't over, whose answer found no memory
pub record Unanswered (limit : Option ℕ) (s : ServeState) (events : List Event) : Type 0 where
  pub from : Addr
  pub bytes : List ℕ
  pub at : ℕ
  pub next : NodeState
  pub in_time : is_over limit s.moment ≡ false
  pub got : events ≡ Got from bytes (waits_to limit s.moment) at ∷ []
  pub ends : EndsEarly s.node from bytes at next

-- ---- how many

abbrev pub is_got : Event → Bool
is_got (Got from bytes until at) = true
is_got other = false

-- how many datagrams came
abbrev pub got_in : List Event → ℕ
got_in events = length (filter is_got events)

-- The receive calls of a node that lasts so long, the table that it has behind them, the datagrams that came, and the replies
-- that were sent and not refused. They are as many as it may make, or fewer, if the moment told last is at its end or behind.
pub record ServesAll (tag_of : Tags) (s : ServeState) (lasting : Lasting) (after : TableState) (received replied : ℕ) (events : List Event) : Type 0 where
  pub made : ℕ
  pub few : made ≤ lasting.receives
  pub end : ServeState
  pub serves : Serves tag_of (end_of s.moment lasting.minutes) made s events end
  pub ended : (made ≡ lasting.receives) ⊎ (is_over (end_of s.moment lasting.minutes) end.moment ≡ true)
  pub table_is : after ≡ end.node.table
  pub received_are : received ≡ got_in events
  pub replied_are : replied ≡ sent_in events

-- some of them, and the table behind them; then no more, unless a query came whose answer found no memory
pub record ServesSome (tag_of : Tags) (s : ServeState) (lasting : Lasting) (after : TableState) (events : List Event) : Type 0 where
  pub made : ℕ
  pub few : made ≤ lasting.receives
  pub front : List Event
  pub end : ServeState
  pub serves : Serves tag_of (end_of s.moment lasting.minutes) made s front end
  pub table_is : after ≡ end.node.table
  pub last : List Event
  pub whole : events ≡ front ++ last
  pub ended : (last ≡ []) ⊎ ((made < lasting.receives) × Unanswered (end_of s.moment lasting.minutes) end last)
