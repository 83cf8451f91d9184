-- The calls that were made at the three turns of a node that serves, once they are closed.
use Rattle.std.specs.Prelude.{◌≡◌, ℕ, ◌<◌, List}
use Rattle.std.specs.List.{All, flat_map}
use Rattle.kad_base.specs.declared.serial.Made.{Made}
use Rattle.kad_base.specs.Serial.{calls_of, left_by, IsRun}
use Rattle.turn_book.specs.Turns.{IsPrefix}
use Rattle.contact_table.specs.TableState.{TableState}
use Rattle.contact_table.specs.TableStep.{TableMay, TableStep, table_after}
use Rattle.contact_table.specs.Told.{HasMemory}
use Rattle.contact_table.specs.declared.calls.TableCall.{TableCall}
use Rattle.contact_table.specs.declared.calls.TableReply.{TableReply}
use Rattle.peer_store.specs.Peers.{no_peers}
use Rattle.peer_store.specs.PeersStep.{PeersMay, PeersStep, peers_after}
use Rattle.peer_store.specs.declared.calls.PeerCall.{PeerCall}
use Rattle.peer_store.specs.declared.calls.PeerReply.{PeerReply}
use Rattle.item_store.specs.Items.{no_items}
use Rattle.item_store.specs.ItemSteps.{ItemMay, ItemStep, item_after}
use Rattle.item_store.specs.declared.calls.ItemCall.{ItemCall}
use Rattle.item_store.specs.declared.calls.ItemReply.{ItemReply}
use Rattle.node_serve.specs.Calls.{Did, HasRoom, HasItemRoom}
use Rattle.serve_crew.specs.Hands.{at_table, at_peers, at_items}

-- All calls on the routing table stand in one legal run (a sequential history of Herlihy and Wing, 1990), from the table that was
-- given to the one that came back; so do those on the peers and those on the items, from none, and with the table's limit of one
-- host. Each was made by one of n workers.
pub record Ran (n : ℕ) (before after : TableState) : Type 0 where
  pub tables : List (Made TableCall TableReply)
  pub tables_legal : IsRun TableMay TableStep table_after before tables
  pub tables_roles : All (λ m. m.role < n) tables
  pub leaves : after ≡ left_by table_after before tables
  pub stores : List (Made PeerCall PeerReply)
  pub stores_legal : IsRun PeersMay PeersStep peers_after (no_peers before.per_address) stores
  pub stores_roles : All (λ m. m.role < n) stores
  pub shelves : List (Made ItemCall ItemReply)
  pub shelves_legal : IsRun ItemMay ItemStep item_after (no_items before.per_address) shelves
  pub shelves_roles : All (λ m. m.role < n) shelves

-- no reply in the runs is out of memory
pub record HadAllMemory (n : ℕ) (before after : TableState) (ran : Ran n before after) : Type 0 where
  pub tables : All (λ m. HasMemory m.reply) ran.tables
  pub stores : All (λ m. HasRoom m.reply) ran.stores
  pub shelves : All (λ m. HasItemRoom m.reply) ran.shelves

-- the calls of worker w in the runs are these, in order, each once
pub record AreCalls (n : ℕ) (before after : TableState) (ran : Ran n before after) (w : ℕ) (did : List Did) : Type 0 where
  pub tables : calls_of w ran.tables ≡ flat_map (at_table w) did
  pub stores : calls_of w ran.stores ≡ flat_map (at_peers w) did
  pub shelves : calls_of w ran.shelves ≡ flat_map (at_items w) did

-- these are the first of them
pub record AreFirstCalls (n : ℕ) (before after : TableState) (ran : Ran n before after) (w : ℕ) (did : List Did) : Type 0 where
  pub tables : IsPrefix (flat_map (at_table w) did) (calls_of w ran.tables)
  pub stores : IsPrefix (flat_map (at_peers w) did) (calls_of w ran.stores)
  pub shelves : IsPrefix (flat_map (at_items w) did) (calls_of w ran.shelves)
