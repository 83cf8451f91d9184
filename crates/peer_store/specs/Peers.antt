-- The peers that announced themselves (BEP 5), as a flat list. The numbers are this project's own.
use Rattle.std.specs.Prelude.{ℕ, suc, ◌+◌, ◌-◌, ◌%◌, ◌<◌, ◌≤◌, Bool, ◌&&◌, not, cond, nat_lt, List, [], ◌∷◌, ◌++◌, length, filter, map, take, IsTrue}
use Rattle.std.specs.List.{list_any}
use Rattle.std.specs.List.Sorted.{IsStrictlySortedBy}
use Rattle.std.specs.Map.{keys_of}
use Rattle.std.specs.BTreeMap.{insert_entry}
use Rattle.std.specs.Ordering.{ordering_then, is_eq, is_le, nat_cmp}
use Rattle.std.specs.Str.{bytes_eq}
use Rattle.std.specs.Int.{w32, from_be_bytes, to_be_bytes}
use Rattle.std.specs.Cmp.Lexicographic.{slice_cmp}
use Rattle.std.specs.declared.cmp.Ordering.{Ordering}
use Rattle.kad_base.specs.Contacts.{address_bytes}
use Rattle.kad_base.specs.Hosts.{host}
use Rattle.kad_base.specs.Limits.{max_peers}
use Rattle.kad_base.specs.declared.types.Id.{Id}
use Rattle.kad_base.specs.declared.types.Addr.{Addr}
use Rattle.kad_base.specs.declared.types.Ip.{Ip}
use Rattle.kad_base.specs.declared.types.Ip.TheVariants.{V4, V6}
use Rattle.kad_base.specs.declared.host.Host.{Host}
use Rattle.aged_map.specs.PerHost.{Limited, limited, holding, at_host, HasNoPlaceAt, HasNoPlaceAmong}

-- how long a peer is kept and listed after its last add, in milliseconds
abbrev pub max_age : ℕ
max_age = 1800000

-- the most peers of one list
abbrev pub max_listed : ℕ
max_listed = 50

-- a key and a peer of it
abbrev pub Pair : Type 0
Pair = Id × Addr

-- a pair that is held, and the moment of its last add
abbrev pub Held : Type 0
Held = Pair × ℕ

-- the order of addresses: those of IPv4 before those of IPv6, by their bytes, then by port
abbrev pub address_cmp : Addr → Addr → Ordering
address_cmp a b = ordering_then (slice_cmp nat_cmp (address_bytes a.ip) (address_bytes b.ip)) (nat_cmp a.port b.port)

-- the order of pairs: by key, then by address
abbrev pub pair_cmp : Pair → Pair → Ordering
pair_cmp a b = ordering_then (slice_cmp nat_cmp a.0.0 b.0.0) (address_cmp a.1 b.1)

-- whose a pair is: its peer's, whatever the port
abbrev pub pair_host : Pair → ℕ → Host
pair_host pair last = host pair.1

-- a store of peers: what is held, and the most pairs of one host that may be, 0 where there is no limit
abbrev pub PeersState : Type 0
PeersState = Limited Pair ℕ

-- a store that holds nothing
abbrev pub no_peers : ℕ → PeersState
no_peers per_address = limited per_address []

-- what is held: each pair once, in order, no more than there may be, and no more of one host
pub record IsPeers (s : PeersState) : Type 0 where
  pub sorted : IsStrictlySortedBy pair_cmp (keys_of s.held)
  pub few : length s.held ≤ max_peers
  pub few_of_a_host : 0 < s.per_host → (h : Host) → length (at_host pair_host h s.held) ≤ s.per_host

-- the pair is held
abbrev pub Holds : PeersState → Pair → Type 0
Holds s pair = IsTrue (list_any (λ p. is_eq (pair_cmp pair p)) (keys_of s.held))

-- the pair's host is crowded: the pair isn't held, there is a limit, and as many pairs of its host are held
abbrev pub IsCrowded : PeersState → Pair → Type 0
IsCrowded s pair = HasNoPlaceAt pair_cmp pair_host s pair (host pair.1)

-- the pair has no place: it isn't held, its host isn't crowded, and as many are held as may be
abbrev pub HasNoPlace : PeersState → Pair → Type 0
HasNoPlace s pair = HasNoPlaceAmong pair_cmp pair_host s pair (host pair.1) max_peers

-- the pair has a place to come: it isn't held, and isn't refused
pub record HasPlace (s : PeersState) (pair : Pair) : Type 0 where
  pub absent : ¬ (Holds s pair)
  pub free : ¬ IsCrowded s pair
  pub room : ¬ HasNoPlace s pair

-- the last add is less than the greatest age before the moment. One after the moment counts as 0 before it.
abbrev pub is_fresh : ℕ → Held → Bool
is_fresh at h = nat_lt (at - h.1) max_age

-- what is held after the pair was added at the moment: in its place, with this last add
abbrev pub with_add : PeersState → Pair → ℕ → PeersState
with_add s pair at = holding s (insert_entry pair_cmp s.held pair at)

-- those that are fresh at the moment
abbrev pub fresh : List Held → ℕ → List Held
fresh held at = filter (is_fresh at) held

-- what is held after a purge at the moment: all that is fresh
abbrev pub purged : PeersState → ℕ → PeersState
purged s at = holding s (fresh s.held at)

-- the addresses
abbrev pub peers_of : List Held → List Addr
peers_of held = map (λ h. h.0.1) held

-- what is held under the key and is fresh at the moment
abbrev pub fresh_of : List Held → Id → ℕ → List Held
fresh_of held key at = filter (λ h. bytes_eq key.0 h.0.0.0 && is_fresh at h) held

-- the peers that a list names: the first of those of the key that are fresh at the moment, in the order of addresses
abbrev pub listed : PeersState → Id → ℕ → List Addr
listed s key at = take max_listed (peers_of (fresh_of s.held key at))

-- the addresses that are held under the key, in order
abbrev pub held_of : List Held → Id → List Addr
held_of held key = peers_of (filter (λ h. bytes_eq key.0 h.0.0.0) held)

-- an IPv4 address as a number; one of IPv6 is behind all of them
abbrev pub number_of : Ip → ℕ
number_of (V4 bytes) = from_be_bytes w32 bytes
number_of (V6 bytes) = 4294967295

-- the number of the first and of the last of addresses, and another if there is none
abbrev pub first_number : ℕ → List Addr → ℕ
first_number none [] = none
first_number none (a ∷ rest) = number_of a.ip

abbrev pub last_number : ℕ → List Addr → ℕ
last_number none [] = none
last_number none (a ∷ rest) = last_number (number_of a.ip) rest

-- the number of the address at which a drawn list begins, by a number below 2 to the power of 32 that was drawn: all from
-- that of the first to that of the last come equally often, but for what the division leaves
abbrev pub begins_at : ℕ → ℕ → ℕ → ℕ
begins_at low high n = low + n % suc (high - low)

-- the point at which a drawn list begins, before all ports of that address
abbrev pub point : List Addr → List ℕ → Addr
point peers first = record {
  ip = V4 (to_be_bytes w32 (begins_at (first_number 0 peers) (last_number 0 peers) (from_be_bytes w32 first)));
  port = 0;
}

-- what isn't before the point in the order of addresses
abbrev pub is_from : Addr → Held → Bool
is_from p h = is_le (address_cmp p h.0.1)

-- all, from the point on and then those before it
abbrev pub around : Addr → List Held → List Held
around p held = filter (is_from p) held ++ filter (λ h. not (is_from p h)) held

-- the peers that a drawn list names: the first of those of the key that are fresh at the moment, from the point on in the
-- order of addresses, and round to it
abbrev pub drawn : PeersState → Id → ℕ → List ℕ → List Addr
drawn s key at first = take max_listed (peers_of (around (point (held_of s.held key) first) (fresh_of s.held key at)))

-- the peers that a list names: where there is a limit of one host a list that is drawn, so that no address comes first
-- whoever asks; else the first of all
abbrev pub listed_from : PeersState → Id → ℕ → List ℕ → List Addr
listed_from s key at first = cond (nat_lt 0 s.per_host) (drawn s key at first) (listed s key at)
