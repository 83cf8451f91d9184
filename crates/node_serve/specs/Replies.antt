-- What a node replies to a query, and what it keeps for others then, by the first rule that fits (BEP 5, BEP 44). The nodes
-- that it names are Kademlia's (2002, section 2.3). `snodes`, the limits of peers and items, that no mutable item is kept,
-- and the text of a refusal are this project's own, and so is that a node serves in the network of IPv4 alone: it answers
-- `nodes` whatever `want` says (BEP 32), and never `nodes6`.
use Rattle.std.specs.Prelude.{◌≡◌, ◌⊎◌, ℕ, ◌<◌, ◌≤◌, length, Bool, true, false, List, [], ◌∷◌, filter, find, flat_map, codes, pos, Option, Some, None, option_to_list}
use Rattle.kad_base.specs.declared.types.Id.{Id}
use Rattle.kad_base.specs.declared.types.Ip.{Ip}
use Rattle.kad_base.specs.declared.types.Ip.TheVariants.{V4, V6}
use Rattle.kad_base.specs.declared.types.Addr.{Addr}
use Rattle.kad_base.specs.declared.types.Contact.{Contact}
use Rattle.kad_base.specs.declared.types.Proof.{Proof}
use Rattle.kad_base.specs.declared.types.Report.{Report}
use Rattle.kad_base.specs.declared.types.Policy.{Policy}
use Rattle.kad_base.specs.declared.types.Policy.TheVariants.{Plain, Puzzled}
use Rattle.kad_base.specs.Contacts.{same}
use Rattle.kad_distance.specs.KClosest.{k_closest}
use Rattle.kad_krpc.specs.declared.message.Ask.{Ask}
use Rattle.kad_krpc.specs.declared.message.Ask.TheVariants.{Ping, FindNode, GetPeers, AnnouncePeer, Get as GetItem, Put as PutItem, Other}
use Rattle.kad_krpc.specs.declared.message.Port.{Port}
use Rattle.kad_krpc.specs.declared.message.Port.TheVariants.{Given, Implied}
use Rattle.kad_krpc.specs.declared.message.Answer.{Answer}
use Rattle.kad_krpc.specs.declared.message.Message.{Message}
use Rattle.kad_krpc.specs.declared.message.Message.TheVariants as message
use Rattle.kad_krpc.specs.Records.{ip_bytes}
use Rattle.contact_table.specs.TableStep.{contacts_of}
use Rattle.contact_table.specs.Vouched.{reports_of}
use Rattle.peer_store.specs.Peers.{PeersState, Pair, IsCrowded, HasNoPlace, with_add, purged, listed_from}
use Rattle.node_tokens.specs.Tokens.{TokensState, IsAccepted, epoch_at, token_of, point_at}
use Rattle.item_store.specs.Items.{ItemsState, max_length, key_of, handed_out, with_item, IsCrowded as IsHostCrowded, HasNoPlace as HasNoRoom, purged as purged_items}
use Rattle.node_serve.specs.NodeState.{NodeState, Stores, stores_of}

-- ---- the parts of a reply

abbrev pub is_v4 : Ip → Bool
is_v4 (V4 bytes) = true
is_v4 (V6 bytes) = false

abbrev pub of_ipv4 : List Contact → List Contact
of_ipv4 contacts = filter (λ c. is_v4 c.addr.ip) contacts

-- the k closest of the table to the target, without those that a compact record has no place for
abbrev pub nodes_for : NodeState → Id → List Contact
nodes_for s target = of_ipv4 (k_closest target s.k (contacts_of s.table))

-- the reports of contacts that it has a place for
abbrev pub reports_of_ipv4 : List Report → List Report
reports_of_ipv4 reports = filter (λ r. is_v4 r.contact.addr.ip) reports

-- the same contacts, each with the proof that the table has of it, if it has one
abbrev pub reports_for : NodeState → Id → List Report
reports_for s target = reports_of_ipv4 (reports_of s.table.proofs (k_closest target s.k (contacts_of s.table)))

-- the kept proof of a contact: that of the first kept report with this contact
abbrev pub kept_proof : List Report → Contact → Option Report
kept_proof proofs c = find (λ r. same c r.contact) proofs

-- the report, where it has this proof
abbrev pub where_proved : Report → Option Proof → Option Report
where_proved r None = None
where_proved r (Some proof) = Some r

-- the kept report, where there is one; else the table's, where that has a proof
abbrev pub kept_or : Option Report → Report → Option Report
kept_or (Some kept) r = Some kept
kept_or None r = where_proved r r.proof

abbrev pub shown_proof : List Report → Report → Option Report
shown_proof proofs r = kept_or (kept_proof proofs r.contact) r

-- those that have a proof, kept or the table's, in order, with it
abbrev pub proved : List Report → List Report → List Report
proved proofs reports = flat_map (λ r. option_to_list (shown_proof proofs r)) reports

-- where the node asks for puzzles it names proofs too
abbrev pub snodes_by : Policy → List Report → List Report → Option (List Report)
snodes_by Plain proofs reports = None
snodes_by (Puzzled c1 c2) proofs reports = Some (proved proofs reports)

abbrev pub snodes_for : NodeState → Id → Option (List Report)
snodes_for s target = snodes_by s.policy s.proofs (reports_for s target)

-- the token of the address that asks
abbrev pub token_for : NodeState → Addr → ℕ → List ℕ
token_for s from at = token_of s.tokens.seed (epoch_at s.tokens at) (ip_bytes from.ip)

-- the peers, where there is one
abbrev pub where_some : List Addr → Option (List Addr)
where_some [] = None
where_some (peer ∷ peers) = Some (peer ∷ peers)

-- the point by which the list of a key's peers is drawn in a store with a limit of one host: it is of SHA-1 (FIPS 180-4) of the
-- address that asks, the key and the secret of the epoch, so that nobody chooses addresses that every list names. This is the
-- project's own rule: BEP 5 doesn't say which of many peers a node names
abbrev pub point_for : TokensState → Addr → ℕ → Id → List ℕ
point_for t from at key = point_at t (ip_bytes from.ip) at key.0

abbrev pub values_for : NodeState → Addr → Id → ℕ → Option (List Addr)
values_for s from key at = where_some (listed_from s.peers key at (point_for s.tokens from at key))

-- ---- replies

-- the node's identifier alone
abbrev pub named : List ℕ → Id → Message
named tx own = message.Answer tx (record { id = own; nodes = None; snodes = None; nodes6 = None; snodes6 = None; token = None; v = None; values = None })

abbrev pub found : List ℕ → NodeState → Id → Message
found tx s target = message.Answer tx (record {
  id = s.own;
  nodes = Some (nodes_for s target);
  snodes = snodes_for s target;
  nodes6 = None;
  snodes6 = None;
  token = None;
  v = None;
  values = None;
})

-- with a token for whoever asks, and a value or peers
abbrev pub tokened : NodeState → Addr → ℕ → Id → Option (List ℕ) → Option (List Addr) → Answer
tokened s from at key v values = record {
  id = s.own;
  nodes = Some (nodes_for s key);
  snodes = snodes_for s key;
  nodes6 = None;
  snodes6 = None;
  token = Some (token_for s from at);
  v = v;
  values = values;
}

-- with the peers of the key
abbrev pub peers_found : List ℕ → NodeState → Addr → ℕ → Id → Message
peers_found tx s from at key = message.Answer tx (tokened s from at key None (values_for s from key at))

-- with the item of the key, where one is handed out
abbrev pub item_found : List ℕ → NodeState → Addr → ℕ → Id → Message
item_found tx s from at key = message.Answer tx (tokened s from at key (handed_out s.items key at) None)

-- the error messages of BEP 5: a server error, protocol errors and a method that isn't known; and the one of BEP 44 for a
-- value that is too big
abbrev pub server_error : List ℕ → Message
server_error tx = message.Fault tx (pos 202) (codes "Server Error")

abbrev pub bad_token : List ℕ → Message
bad_token tx = message.Fault tx (pos 203) (codes "Bad Token")

abbrev pub no_mutable : List ℕ → Message
no_mutable tx = message.Fault tx (pos 203) (codes "Mutable Items Unsupported")

abbrev pub too_big : List ℕ → Message
too_big tx = message.Fault tx (pos 205) (codes "Value Too Big")

abbrev pub method_unknown : List ℕ → Message
method_unknown tx = message.Fault tx (pos 204) (codes "Method Unknown")

-- ---- which one comes

-- the peer that is announced: the address that asks, with the port that it names or, where that is implied, its own
abbrev pub port_for : Addr → Port → ℕ
port_for from (Given port) = port
port_for from Implied = from.port

abbrev pub peer_for : Addr → Port → Addr
peer_for from port = record { ip = from.ip; port = port_for from port }

-- a reply, and what the node keeps for others when it is given
pub record Outcome : Type 0 where
  pub message : Message
  pub stores : Stores

-- a reply that leaves what is kept
abbrev pub leaving : NodeState → Message → Outcome
leaving s message = record { message = message; stores = stores_of s }

-- other peers, and the same items
abbrev pub with_peers : NodeState → PeersState → Stores
with_peers s peers = record { peers = peers; items = s.items }

-- other items, and the same peers
abbrev pub with_items : NodeState → ItemsState → Stores
with_items s items = record { peers = s.peers; items = items }

-- a peer, or an item, has no place: as many of its host are held as may be, or as many in all
abbrev pub RefusesPeer : PeersState → Pair → Type 0
RefusesPeer s pair = IsCrowded s pair ⊎ HasNoPlace s pair

abbrev pub RefusesItem : ItemsState → Id → Addr → Type 0
RefusesItem s key from = IsHostCrowded s key from ⊎ HasNoRoom s key from

-- An announced peer is held where its token is accepted and, after what is old was purged, it has a place. Where it has
-- none the purge stands.
pub data Announces (s : NodeState) (from : Addr) (at : ℕ) (tx : List ℕ) (key : Id) (peer : Addr) (token : List ℕ) (o : Outcome) : Type 0 where
  refused : ¬ IsAccepted s.tokens (ip_bytes from.ip) at token
      → o ≡ leaving s (bad_token tx) → Announces s from at tx key peer token o
  full : IsAccepted s.tokens (ip_bytes from.ip) at token → RefusesPeer (purged s.peers at) (key, peer)
      → o ≡ record { message = server_error tx; stores = with_peers s (purged s.peers at) } → Announces s from at tx key peer token o
  added : IsAccepted s.tokens (ip_bytes from.ip) at token → ¬ RefusesPeer (purged s.peers at) (key, peer)
      → o ≡ record { message = named tx s.own; stores = with_peers s (with_add (purged s.peers at) (key, peer) at) } → Announces s from at tx key peer token o

-- what is put isn't refused: its token is accepted, it is immutable, and its written form isn't too long
pub record IsTaken (s : NodeState) (from : Addr) (at : ℕ) (token v : List ℕ) (mutable : Bool) : Type 0 where
  pub own_token : IsAccepted s.tokens (ip_bytes from.ip) at token
  pub immutable : mutable ≡ false
  pub short : length v ≤ max_length

-- An item that is put and isn't refused is held where, after what is old was purged, it has a place. Where it has none the
-- purge stands.
pub data Puts (s : NodeState) (from : Addr) (at : ℕ) (tx token v : List ℕ) (mutable : Bool) (o : Outcome) : Type 0 where
  strange : ¬ IsAccepted s.tokens (ip_bytes from.ip) at token
      → o ≡ leaving s (bad_token tx) → Puts s from at tx token v mutable o
  changing : IsAccepted s.tokens (ip_bytes from.ip) at token → mutable ≡ true
      → o ≡ leaving s (no_mutable tx) → Puts s from at tx token v mutable o
  long : IsAccepted s.tokens (ip_bytes from.ip) at token → mutable ≡ false → max_length < length v
      → o ≡ leaving s (too_big tx) → Puts s from at tx token v mutable o
  crowded : IsTaken s from at token v mutable → RefusesItem (purged_items s.items at) (key_of v) from
      → o ≡ record { message = server_error tx; stores = with_items s (purged_items s.items at) } → Puts s from at tx token v mutable o
  kept : IsTaken s from at token v mutable → ¬ RefusesItem (purged_items s.items at) (key_of v) from
      → o ≡ record { message = named tx s.own; stores = with_items s (with_item (purged_items s.items at) v from at) } → Puts s from at tx token v mutable o

abbrev pub RepliesWith : NodeState → Addr → ℕ → List ℕ → Ask → Outcome → Type 0
RepliesWith s from at tx (Ping id) o = o ≡ leaving s (named tx s.own)
RepliesWith s from at tx (FindNode id target want) o = o ≡ leaving s (found tx s target)
RepliesWith s from at tx (GetPeers id key want) o = o ≡ leaving s (peers_found tx s from at key)
RepliesWith s from at tx (AnnouncePeer id key port token) o = Announces s from at tx key (peer_for from port) token o
RepliesWith s from at tx (GetItem id key want) o = o ≡ leaving s (item_found tx s from at key)
RepliesWith s from at tx (PutItem id token v mutable) o = Puts s from at tx token v mutable o
RepliesWith s from at tx (Other method) o = o ≡ leaving s (method_unknown tx)
