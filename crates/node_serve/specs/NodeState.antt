-- What callers see of a node that answers.
use Rattle.std.specs.Prelude.{◌≡◌, ℕ, ◌<◌, ◌≤◌, Bool, List}
use Rattle.std.specs.List.{All}
use Rattle.kad_base.specs.declared.types.Id.{Id}
use Rattle.kad_base.specs.declared.types.Report.{Report}
use Rattle.kad_base.specs.declared.types.Policy.{Policy}
use Rattle.kad_base.specs.Limits.{max_k}
use Rattle.kad_base.specs.Puzzles.{Passes}
use Rattle.contact_table.specs.TableState.{TableState}
use Rattle.peer_store.specs.Peers.{PeersState, no_peers}
use Rattle.node_tokens.specs.Tokens.{TokensState, tokens_by}
use Rattle.item_store.specs.Items.{ItemsState, no_items}

-- what a node keeps for others: the peers that were announced to it, and the items that were put to it
pub record Stores : Type 0 where
  pub peers : PeersState
  pub items : ItemsState

-- its identifier, how many contacts a reply names, under which policy it answers, its routing table, the peers and the
-- items that it keeps for others, the proofs that it keeps, its tokens, and whether it tags what it says
pub record NodeState : Type 0 where
  pub own : Id
  pub k : ℕ
  pub policy : Policy
  pub table : TableState
  pub peers : PeersState
  pub items : ItemsState
  pub proofs : List Report
  pub tokens : TokensState
  pub sealed : Bool

-- the table is the node's own, k is within its limits, and each proof passes
pub record IsNode (s : NodeState) : Type 0 where
  pub own : s.table.own ≡ s.own
  pub some_nodes : 0 < s.k
  pub few_nodes : s.k ≤ max_k
  pub proofs : All (Passes s.policy) s.proofs

-- what it keeps for others
abbrev pub stores_of : NodeState → Stores
stores_of s = record { peers = s.peers; items = s.items }

-- a node that begins at the moment: nobody has announced a peer or put an item to it, of which it keeps no more of one host
-- than its table does, and its tokens are drawn from the random bytes
abbrev pub new_node : Id → ℕ → Policy → TableState → List Report → List ℕ → ℕ → Bool → NodeState
new_node own k policy table proofs random began sealed = record {
  own = own;
  k = k;
  policy = policy;
  table = table;
  peers = no_peers table.per_address;
  items = no_items table.per_address;
  proofs = proofs;
  tokens = tokens_by random began table.per_address;
  sealed = sealed;
}

-- the node with another table, and keeping this for others
abbrev pub with_parts : NodeState → TableState → Stores → NodeState
with_parts s table stores = record {
  own = s.own;
  k = s.k;
  policy = s.policy;
  table = table;
  peers = stores.peers;
  items = stores.items;
  proofs = s.proofs;
  tokens = s.tokens;
  sealed = s.sealed;
}
