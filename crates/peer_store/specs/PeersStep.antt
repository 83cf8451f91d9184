-- The announced peers as an object whose calls are steps: who may make which call, when each reply comes, and what it
-- leaves.
use Rattle.std.specs.Prelude.{◌≡◌, ◌↔◌, ℕ}
use Rattle.aged_map.specs.declared.aged.Stored.TheVariants.{Renewed}
use Rattle.peer_store.specs.Peers.{PeersState, Holds, IsCrowded, HasNoPlace, HasPlace, with_add, purged, listed_from}
use Rattle.peer_store.specs.declared.calls.PeerCall.{PeerCall}
use Rattle.peer_store.specs.declared.calls.PeerCall.TheVariants.{List as List_call, Put}
use Rattle.peer_store.specs.declared.calls.PeerReply.{PeerReply}
use Rattle.peer_store.specs.declared.calls.PeerReply.TheVariants.{Listed, Stored as Stored_reply, Crowded, Full, NoMemory}

-- every role may make every call
abbrev pub PeersMay : ℕ → PeerCall → Type 0
PeersMay role call = Unit {0}

-- when each reply comes: a peer is put among those that a purge leaves. Putting what isn't s needs memory, and so does a
-- list
abbrev pub PeersStep : PeersState → ℕ → PeerCall → PeerReply → Type 0
PeersStep s role (List_call key at first) (Listed list) = list ≡ listed_from s key at first
PeersStep s role (List_call key at first) NoMemory = Unit {0}
PeersStep s role (List_call key at first) other = ⊥
PeersStep s role (Put key peer at) (Stored_reply stored) =
    ((stored ≡ Renewed) ↔ Holds (purged s at) (key, peer)) × (¬ IsCrowded (purged s at) (key, peer)) × (¬ HasNoPlace (purged s at) (key, peer))
PeersStep s role (Put key peer at) Crowded = IsCrowded (purged s at) (key, peer)
PeersStep s role (Put key peer at) Full = HasNoPlace (purged s at) (key, peer)
PeersStep s role (Put key peer at) NoMemory = HasPlace (purged s at) (key, peer)
PeersStep s role (Put key peer at) other = ⊥

-- the peers after a reply; if a peer is refused or memory runs out, the purge remains
abbrev pub peers_after : PeersState → ℕ → PeerCall → PeerReply → PeersState
peers_after s role (List_call key at first) reply = s
peers_after s role (Put key peer at) (Stored_reply stored) = with_add (purged s at) (key, peer) at
peers_after s role (Put key peer at) other = purged s at
