-- What the command `serve` promises: that its events are receive calls, that each query among the datagrams which came was
-- answered by the reply that a node owes it (BEP 5), as the datagrams before had left the node, and that nothing else was
-- sent. If several workers answer, these are batches, which they answered at once. Where the words ask for it, the text also has
-- the routing table that the calls left.
use Rattle.std.specs.Prelude.{◌≡◌, ℕ, ◌≤◌, List, ◌∷◌, map, None}
use Rattle.kad_base.specs.declared.types.Family.TheVariants.{Four}
use Rattle.kad_base.specs.declared.types.Contact.{Contact}
use Rattle.kad_base.specs.declared.types.Event.{Event}
use Rattle.kad_base.specs.declared.types.Event.TheVariants.{Now}
use Rattle.kad_base.specs.declared.types.Report.{Report}
use Rattle.kad_base.specs.Outside.{Grows, Happens}
use Rattle.contact_table.specs.TableState.{TableState}
use Rattle.contact_table.specs.Told.{limited_table}
use Rattle.lookup_run.specs.Lookup.{TableTold}
use Rattle.node_serve.specs.NodeState.{new_node}
use Rattle.node_serve.specs.Receives.{ServeState, ServesAll, ServesSome}
use Rattle.node_serve.specs.declared.lasting.Lasting.{Lasting}
use Rattle.node_serve.specs.declared.service.ServeFault.{ServeFault}
use Rattle.node_serve.specs.declared.setting.ServeSetting.{ServeSetting}
use Rattle.node_tokens.specs.Tokens.{tokens_by}
use Rattle.kad_words.specs.declared.command.ServeWords.{ServeWords}
use Rattle.command_base.specs.Input.{Lists, Admits, Keeps}
use Rattle.serve_commands.specs.Printed.{WithTable, printed_served}
use Rattle.command_base.specs.Promise.{Promise, host_aim, reading}
use Rattle.command_base.specs.Shown.{Shown}
use Rattle.command_base.specs.Called.{Called}
use Rattle.command_base.specs.Started.{AreTableBounds, own_of, seen_call}
use Rattle.serve_batches.specs.ManyServed.{ManyServed, ManyBegun}

-- ---- the node that it begins with

-- the contacts of the input that are usable and pass, in order, were told to a new table, which takes no more of one host than
-- the words say; and of these the reports are kept that have a proof
pub record Hosts (service : ServeWords) (random : List ℕ) (source : Shown ℕ) (table : TableState) (proofs : List Report) : Type 0 where
  pub reports : List Report
  pub lists : Lists source reports
  pub contacts : List Contact
  pub admits : Admits (own_of service.own random) Four service.policy reports contacts
  pub told : TableTold (map seen_call contacts) (limited_table (own_of service.own random) service.k service.bits service.per_address) table
  pub keeps : Keeps (own_of service.own random) Four service.policy reports proofs

-- the node as it begins at a moment
abbrev pub begun_at : ServeWords → List ℕ → TableState → List Report → ℕ → ServeState
begun_at service random table proofs began = record {
  node = new_node (own_of service.own random) service.k service.policy table proofs random began service.sealed;
  moment = began;
}

-- how long it lasts
abbrev pub lasting_of : ServeWords → Lasting
lasting_of service = record { receives = service.receives; minutes = service.minutes }

-- what several workers answer by: the epochs of their tokens count from the moment 0
abbrev pub setting_of : ServeWords → List ℕ → List Report → ServeSetting
setting_of service random proofs = record {
  own = own_of service.own random;
  k = service.k;
  policy = service.policy;
  proofs = proofs;
  tokens = tokens_by random 0 service.per_address;
  sealed = service.sealed;
  proof = None;
}

-- ---- the command

-- the values of its words are within the limits
pub record AreServiceBounds (service : ServeWords) : Type 0 where
  pub table : AreTableBounds service.k service.bits
  pub some_worker : 1 ≤ service.workers
  pub few_workers : service.workers ≤ 8

-- what its events tell: the moment at which it begins, and then its receive calls, which leave a table
pub record Served (service : ServeWords) (called : Called) (table after : TableState) (proofs : List Report) (received replied : ℕ) (events : List Event) : Type 0 where
  pub began : ℕ
  pub then : List Event
  pub whole : events ≡ Now began ∷ then
  pub serves : ServesAll called.tags (begun_at service called.random table proofs began) (lasting_of service) after received replied then

pub record ServedSome (service : ServeWords) (called : Called) (table after : TableState) (proofs : List Report) (events : List Event) : Type 0 where
  pub began : ℕ
  pub then : List Event
  pub whole : events ≡ Now began ∷ then
  pub serves : ServesSome called.tags (begun_at service called.random table proofs began) (lasting_of service) after then

-- what the events of several workers tell: the moment at which they begin, and then their batches
pub record ServedAtOnce (service : ServeWords) (called : Called) (table after : TableState) (proofs : List Report) (received replied : ℕ) (events : List Event) : Type 0 where
  pub began : ℕ
  pub then : List Event
  pub whole : events ≡ Now began ∷ then
  pub serves : ManyServed called.tags (setting_of service called.random proofs) service.workers began (lasting_of service) table after received replied then

pub record ServedSomeAtOnce (service : ServeWords) (called : Called) (table after : TableState) (proofs : List Report) (fault : ServeFault) (events : List Event) : Type 0 where
  pub began : ℕ
  pub then : List Event
  pub whole : events ≡ Now began ∷ then
  pub serves : ManyBegun called.tags (setting_of service called.random proofs) service.workers began (lasting_of service) table after fault then

-- what happened over the link, by how many workers answer, and the table that it left
pub data HasServed (service : ServeWords) (called : Called) (link : Shown Event) (table after : TableState) (proofs : List Report) (received replied : ℕ) : Type 0 where
  alone : service.workers ≡ 1 → Grows link.before link.after (Served service called table after proofs received replied) → HasServed service called link table after proofs received replied
  at_once : 2 ≤ service.workers → Happens link.before link.after (ServedAtOnce service called table after proofs received replied)
      → HasServed service called link table after proofs received replied

pub data HasServedSome (service : ServeWords) (called : Called) (link : Shown Event) (table : TableState) (proofs : List Report) : Type 0 where
  some_alone : service.workers ≡ 1 → (after : TableState) → Grows link.before link.after (ServedSome service called table after proofs) → HasServedSome service called link table proofs
  some_at_once : 2 ≤ service.workers → (after : TableState) → (fault : ServeFault) → Happens link.before link.after (ServedSomeAtOnce service called table after proofs fault)
      → HasServedSome service called link table proofs

-- a whole service, whose text counts the datagrams that came and the replies that were sent, and has the table that it left, if
-- the words ask for it
pub record ServeText (service : ServeWords) (called : Called) (source : Shown ℕ) (link : Shown Event) (text : List ℕ) : Type 0 where
  pub table : TableState
  pub proofs : List Report
  pub hosts : Hosts service called.random source table proofs
  pub after : TableState
  pub received : ℕ
  pub replied : ℕ
  pub tells : HasServed service called link table after proofs received replied
  pub text_is : WithTable service.table after (printed_served received replied) text

-- one that ended early
pub record ServeBegun (service : ServeWords) (called : Called) (source : Shown ℕ) (link : Shown Event) : Type 0 where
  pub table : TableState
  pub proofs : List Report
  pub hosts : Hosts service called.random source table proofs
  pub tells : HasServedSome service called link table proofs

-- ---- what it promises

abbrev pub serve_promise : ServeWords → Promise
serve_promise service = reading (host_aim (AreServiceBounds service) (λ called source link text. ServeText service called source link text) (λ called source link. ServeBegun service called source link))
