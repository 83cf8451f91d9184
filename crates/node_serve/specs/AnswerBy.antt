-- The calls of one node on what it holds, one after another, and what an answer is in their terms.
use Rattle.std.specs.Prelude.{None, ◌≡◌, ℕ, Bool, List, [], ◌∷◌, map, Option}
use Rattle.std.specs.List.{All}
use Rattle.kad_base.specs.declared.types.Addr.{Addr}
use Rattle.kad_base.specs.declared.types.Proof.{Proof}
use Rattle.kad_krpc.specs.declared.message.Ask.{Ask}
use Rattle.kad_krpc.specs.declared.message.Message.{Message}
use Rattle.contact_table.specs.TableState.{TableState}
use Rattle.contact_table.specs.TableStep.{TableStep, table_after}
use Rattle.item_store.specs.ItemSteps.{ItemStep, item_after}
use Rattle.node_serve.specs.NodeState.{NodeState, Stores, stores_of, with_parts}
use Rattle.node_serve.specs.Queries.{IsQuery}
use Rattle.node_serve.specs.Calls.{Did, on_table, on_peers, on_items, HadMemory, call_of, reply_of, calls_of, answer_with}
use Rattle.peer_store.specs.PeersStep.{PeersStep, peers_after}
use Rattle.node_serve.specs.declared.setting.ServeSetting.{ServeSetting}

-- what a node answers by
abbrev pub setting_of : NodeState → ServeSetting
setting_of s = record { own = s.own; k = s.k; policy = s.policy; proofs = s.proofs; tokens = s.tokens; sealed = s.sealed; proof = None }

-- the calls are steps, one after another, from a table and stores to a table and stores
abbrev pub Steps : TableState → Stores → List Did → TableState → Stores → Type 0
Steps t p [] u q = (u ≡ t) × (q ≡ p)
Steps t p (on_table call reply ∷ rest) u q = TableStep t 0 call reply × Steps (table_after t 0 call reply) p rest u q
Steps t p (on_peers call reply ∷ rest) u q = PeersStep p.peers 0 call reply × Steps t (record { peers = peers_after p.peers 0 call reply; items = p.items }) rest u q
Steps t p (on_items call reply ∷ rest) u q = ItemStep p.items 0 call reply × Steps t (record { peers = p.peers; items = item_after p.items 0 call reply }) rest u q

-- the datagram is a query, its calls are steps of the node's table and stores, and the reply is the one that theirs give
pub record AnswerBy (s : NodeState) (from : Addr) (bytes : List ℕ) (at : ℕ) (reply : Message) (next : NodeState) : Type 0 where
  pub tx : List ℕ
  pub read_only : Bool
  pub proof : Option Proof
  pub ask : Ask
  pub query : IsQuery from bytes tx read_only proof ask
  pub did : List Did
  pub calls : map call_of did ≡ calls_of (setting_of s) from at read_only proof ask
  pub memory : All HadMemory did
  pub steps : Steps s.table (stores_of s) did next.table (stores_of next)
  pub reply_is : reply ≡ answer_with (setting_of s) from at tx ask (map reply_of did)
  pub rest : next ≡ with_parts s next.table (stores_of next)
