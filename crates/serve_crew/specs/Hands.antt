-- What contracts see of a worker that answers, and how its own calls grow.
use Rattle.std.specs.Prelude.{◌≡◌, ℕ, List, [], ◌∷◌, ◌++◌}
use Rattle.std.specs.List.{flat_map}
use Rattle.kad_base.specs.declared.types.Contact.{Contact}
use Rattle.kad_base.specs.declared.serial.Made.{Made}
use Rattle.kad_base.specs.Serial.{made}
use Rattle.turn_book.specs.Turns.{PassState, mine}
use Rattle.contact_table.specs.Told.{HasMemory}
use Rattle.contact_table.specs.declared.calls.TableCall.{TableCall}
use Rattle.contact_table.specs.declared.calls.TableCall.TheVariants.{Seen}
use Rattle.contact_table.specs.declared.calls.TableReply.{TableReply}
use Rattle.peer_store.specs.declared.calls.PeerCall.{PeerCall}
use Rattle.peer_store.specs.declared.calls.PeerReply.{PeerReply}
use Rattle.item_store.specs.declared.calls.ItemCall.{ItemCall}
use Rattle.item_store.specs.declared.calls.ItemReply.{ItemReply}
use Rattle.node_serve.specs.Calls.{Did, on_table, on_peers, on_items}
use Rattle.serve_crew.specs.declared.turns.Turns.{Turns}

-- the passes of each turn
abbrev pub TablePass : Type 0
TablePass = PassState TableCall TableReply

abbrev pub PeersPass : Type 0
PeersPass = PassState PeerCall PeerReply

abbrev pub ItemsPass : Type 0
ItemsPass = PassState ItemCall ItemReply

-- its three passes
pub record Hands : Type 0 where
  pub table : TablePass
  pub peers : PeersPass
  pub items : ItemsPass

abbrev pub hands : TablePass → PeersPass → ItemsPass → Hands
hands table peers items = record { table = table; peers = peers; items = items }

-- the passes have one role
pub record HasOneRole (h : Hands) : Type 0 where
  pub peers : h.peers.role ≡ h.table.role
  pub items : h.items.role ≡ h.table.role

-- the same role of the same turn
pub record SamePass {C R : Type 0} (old new : PassState C R) : Type 0 where
  pub turn : new.turn ≡ old.turn
  pub role : new.role ≡ old.role

-- the same roles of the same three turns
pub record SameHands (old new : Hands) : Type 0 where
  pub table : SamePass old.table new.table
  pub peers : SamePass old.peers new.peers
  pub items : SamePass old.items new.items

-- what was done, as calls of a role at each turn
abbrev pub at_table : ℕ → Did → List (Made TableCall TableReply)
at_table role (on_table call reply) = made role call reply ∷ []
at_table role (on_peers call reply) = []
at_table role (on_items call reply) = []

abbrev pub at_peers : ℕ → Did → List (Made PeerCall PeerReply)
at_peers role (on_table call reply) = []
at_peers role (on_peers call reply) = made role call reply ∷ []
at_peers role (on_items call reply) = []

abbrev pub at_items : ℕ → Did → List (Made ItemCall ItemReply)
at_items role (on_table call reply) = []
at_items role (on_peers call reply) = []
at_items role (on_items call reply) = made role call reply ∷ []

-- the worker's own calls grew by just these
pub record Grew (old new : Hands) (did : List Did) : Type 0 where
  pub table : mine new.table ≡ mine old.table ++ flat_map (at_table old.table.role) did
  pub peers : mine new.peers ≡ mine old.peers ++ flat_map (at_peers old.peers.role) did
  pub items : mine new.items ≡ mine old.items ++ flat_map (at_items old.items.role) did

-- a pass made this one call, and this was its reply
abbrev pub Replied : {C R : Type 0} → C → R → PassState C R → PassState C R → Type 0
Replied call reply old new = mine new ≡ mine old ++ made old.role call reply ∷ []

-- a pass made this one call
abbrev pub Called : {C R : Type 0} → C → PassState C R → PassState C R → Type 0
Called {C} {R} call old new = (reply : R) × Replied call reply old new

-- it told of a contact, and there was memory
abbrev pub ToldOf : Contact → TablePass → TablePass → Type 0
ToldOf c old new = (reply : TableReply) × HasMemory reply × Replied (Seen c) reply old new

-- a call that one of its passes made
abbrev pub does : Hands → Did → Hands → Type 0
does old d new = SameHands old new × Grew old new (d ∷ [])

-- the passes are of these turns
pub record CanWork (turns : Turns) (h : Hands) : Type 0 where
  pub table : h.table.turn ≡ turns.table.id
  pub peers : h.peers.turn ≡ turns.peers.id
  pub items : h.items.turn ≡ turns.items.id
