-- One receive call of a node that serves, and all of them, as the code has them; no public contract speaks of these.
use Rattle.std.specs.Prelude.{◌≡◌, ℕ, ◌+◌, List, [], Option}
use Rattle.kad_base.specs.declared.types.Addr.{Addr}
use Rattle.kad_base.specs.declared.types.Event.{Event}
use Rattle.kad_base.specs.Outside.{Grows}
use Rattle.node_serve.specs.declared.service.Server.{Server}
use Rattle.node_serve.specs.declared.service.ServeFault.{ServeFault}
use Rattle.node_serve.specs.declared.service.ServeFault.TheVariants.{LinkFault, NoMemory}
use Rattle.node_serve.specs.NodeState.{NodeState}
use Rattle.node_serve.specs.Receives.{ServeState, Responds, ServesOne, Serves, Unanswered, got_in, sent_in}
use Rattle.node_serve.specs.Sealing.{Tags}

-- the node and its moment
abbrev pub serve_state : Server → ServeState
serve_state s = record { node = s.node; moment = s.moment }

-- a server that has received nothing
abbrev pub server_at : NodeState → ℕ → Server
server_at node began = record { node = node; moment = began; received = 0; replied = 0 }

-- what follows a datagram: no further one, and so many replies that were sent
pub record RespondsWith (tag_of : Tags) (s : NodeState) (from : Addr) (bytes : List ℕ) (at sent : ℕ) (next : NodeState) (events : List Event) : Type 0 where
  pub responds : Responds tag_of s from bytes at events next
  pub none_got : got_in events ≡ 0
  pub sent_are : sent ≡ sent_in events

-- one receive call of a service with this end, and what it adds to the counts
pub record ReceivesOne (tag_of : Tags) (limit : Option ℕ) (s t : Server) (events : List Event) : Type 0 where
  pub serves : ServesOne tag_of limit (serve_state s) events (serve_state t)
  pub received_are : t.received ≡ s.received + got_in events
  pub replied_are : t.replied ≡ s.replied + sent_in events

-- so many of them
pub record ReceivesAll (tag_of : Tags) (limit : Option ℕ) (receives : ℕ) (s t : Server) (events : List Event) : Type 0 where
  pub serves : Serves tag_of limit receives (serve_state s) events (serve_state t)
  pub received_are : t.received ≡ s.received + got_in events
  pub replied_are : t.replied ≡ s.replied + sent_in events

-- how one ends that isn't made to its end: nothing came, since the link failed; or a query, for whose answer there was no
-- memory
abbrev pub Stops : Option ℕ → ServeFault → ServeState → Option (List Event) → Option (List Event) → Type 0
Stops limit LinkFault s told told' = Grows told told' (λ es. es ≡ [])
Stops limit NoMemory s told told' = Grows told told' (Unanswered limit s)
