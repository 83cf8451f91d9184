-- The three turns of a node that serves: how they open, and what is known once they are closed.
use Rattle.std.specs.Prelude.{◌≡◌, ℕ, []}
use Rattle.turn_book.specs.Turns.{AreAll, Closed, all_fresh}
use Rattle.contact_table.specs.TableState.{TableState}
use Rattle.contact_table.specs.TableStep.{TableMay, TableStep, table_after}
use Rattle.peer_store.specs.Peers.{PeersState, no_peers}
use Rattle.peer_store.specs.PeersStep.{PeersMay, PeersStep, peers_after}
use Rattle.item_store.specs.Items.{ItemsState, no_items}
use Rattle.item_store.specs.ItemSteps.{ItemMay, ItemStep, item_after}
use Rattle.serve_crew.specs.declared.turns.Turns.{Turns}
use Rattle.serve_crew.specs.declared.turns.Rows.{Rows}

-- they open with this table, and with no peers and no items, of which they take no more of one host than the table
pub record Opens (before : TableState) (turns : Turns) : Type 0 where
  pub table : turns.table.start ≡ before
  pub peers : turns.peers.start ≡ no_peers before.per_address
  pub items : turns.items.start ≡ no_items before.per_address

-- the table's turn has so many roles, and the other two so many
pub record HaveRoles (many few : ℕ) (turns : Turns) : Type 0 where
  pub table : turns.table.roles ≡ many
  pub peers : turns.peers.roles ≡ few
  pub items : turns.items.roles ≡ few

-- the rows have room for so many passes
pub record HaveRoom (many few : ℕ) (rows : Rows) : Type 0 where
  pub table : rows.table.room ≡ many
  pub peers : rows.peers.room ≡ few
  pub items : rows.items.room ≡ few

-- all passes stand in the rows, and none made a call
pub record AreFresh (many few : ℕ) (turns : Turns) (rows : Rows) : Type 0 where
  pub roles : HaveRoles many few turns
  pub room : HaveRoom many few rows
  pub table : rows.table.passes ≡ all_fresh turns.table
  pub peers : rows.peers.passes ≡ all_fresh turns.peers
  pub items : rows.items.passes ≡ all_fresh turns.items

-- the rows are empty
pub record AreEmpty (many few : ℕ) (rows : Rows) : Type 0 where
  pub room : HaveRoom many few rows
  pub table : rows.table.passes ≡ []
  pub peers : rows.peers.passes ≡ []
  pub items : rows.items.passes ≡ []

-- the rows have all passes
pub record HaveAll (turns : Turns) (rows : Rows) : Type 0 where
  pub table : AreAll turns.table rows.table.passes
  pub peers : AreAll turns.peers rows.peers.passes
  pub items : AreAll turns.items rows.items.passes

-- all three were closed, and this table came back
pub record AreClosed (turns : Turns) (rows : Rows) (after : TableState) : Type 0 where
  pub table_calls : ℕ
  pub table : Closed TableMay TableStep table_after turns.table rows.table.passes after table_calls
  pub held : PeersState
  pub peers_calls : ℕ
  pub peers : Closed PeersMay PeersStep peers_after turns.peers rows.peers.passes held peers_calls
  pub shelf : ItemsState
  pub items_calls : ℕ
  pub items : Closed ItemMay ItemStep item_after turns.items rows.items.passes shelf items_calls
