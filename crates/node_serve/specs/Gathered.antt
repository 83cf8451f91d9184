-- What a node does for a query on what it holds, in terms of its calls; no public contract speaks of these.
use Rattle.std.specs.Prelude.{◌≡◌, ℕ, List, map, None}
use Rattle.std.specs.List.{All}
use Rattle.kad_krpc.specs.Asking.{proof_of}
use Rattle.kad_krpc.specs.Views.{ask_seen}
use Rattle.contact_table.specs.TableStep.{TableStep, table_after}
use Rattle.peer_store.specs.PeersStep.{PeersStep, peers_after}
use Rattle.item_store.specs.ItemSteps.{ItemStep, item_after}
use Rattle.node_serve.specs.AnswerOf.{LeavesStores, notify_by}
use Rattle.node_serve.specs.NodeState.{IsNode, NodeState, Stores, stores_of, with_parts}
use Rattle.node_serve.specs.declared.asked.Asked.{Asked}
use Rattle.node_serve.specs.declared.holder.Own.{Own}
use Rattle.node_serve.specs.declared.setting.ServeSetting.{ServeSetting}
use Rattle.node_serve.specs.Calls.{Did, on_table, on_peers, on_items, HadMemory, call_of, reply_of, calls_of, answer_with}
use Rattle.node_serve.specs.AnswerBy.{Steps, setting_of}
use Rattle.node_serve.specs.Sealing.{Tags, sent_form}

-- the peers and the items of one's own
abbrev pub own_stores : Own → Stores
own_stores o = record { peers = o.peers; items = o.items }

-- the node with this setting that holds this
abbrev pub node_of : ServeSetting → Own → NodeState
node_of s o = record {
  own = s.own;
  k = s.k;
  policy = s.policy;
  table = o.table;
  peers = o.peers;
  items = o.items;
  proofs = s.proofs;
  tokens = s.tokens;
  sealed = s.sealed;
}

-- what is one's own makes a node, which asks nobody, and so has no proof to bring
pub record IsOwn (s : ServeSetting) (o : Own) : Type 0 where
  pub node : IsNode (node_of s o)
  pub asks_nobody : s.proof ≡ None

-- a call on what is one's own is a step of it
abbrev pub own_does : Own → Did → Own → Type 0
own_does o (on_table call reply) u = TableStep o.table 0 call reply × (u.table ≡ table_after o.table 0 call reply) × (own_stores u ≡ own_stores o)
own_does o (on_peers call reply) u = PeersStep o.peers 0 call reply × (u.table ≡ o.table) × (own_stores u ≡ record { peers = peers_after o.peers 0 call reply; items = o.items })
own_does o (on_items call reply) u = ItemStep o.items 0 call reply × (u.table ≡ o.table) × (own_stores u ≡ record { peers = o.peers; items = item_after o.items 0 call reply })

-- the text is what the node sends for the reply to the query, and this the node after it
pub record AnswersAsked (tag_of : Tags) (s : NodeState) (asked : Asked) (at : ℕ) (text : List ℕ) (next : NodeState) : Type 0 where
  pub did : List Did
  pub calls : map call_of did ≡ calls_of (setting_of s) asked.from at asked.read_only (proof_of asked.arguments) (ask_seen asked.ask)
  pub memory : All HadMemory did
  pub steps : Steps s.table (stores_of s) did next.table (stores_of next)
  pub written : text ≡ sent_form tag_of s.sealed s.own (answer_with (setting_of s) asked.from at asked.tx.now (ask_seen asked.ask) (map reply_of did))
  pub rest : next ≡ with_parts s next.table (stores_of next)

-- the query's answer found no memory
pub record EndsAsked (s : NodeState) (asked : Asked) (at : ℕ) (next : NodeState) : Type 0 where
  pub stores : LeavesStores s asked.from at asked.tx.now (ask_seen asked.ask) (notify_by s.policy asked.read_only (proof_of asked.arguments) (ask_seen asked.ask) asked.from) (stores_of next)
  pub rest : next ≡ with_parts s s.table (stores_of next)
