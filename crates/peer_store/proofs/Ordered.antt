-- The order of pairs as the code has it is the definition's.
use Rattle.std.proofs.Common.{◌≡◌, ◌↔◌, ℕ, List, Option, Some, None, refl, ap, subst}
use Rattle.std.specs.List.{list_any}
use Rattle.std.specs.List.Sorted.{IsStrictlySortedBy}
use Rattle.std.specs.Map.{keys_of}
use Rattle.std.specs.BTreeMap.{insert_entry}
use Rattle.std.specs.Ordering.{ordering_then, is_eq, nat_cmp}
use Rattle.std.specs.Cmp.Lexicographic.{slice_cmp}
use Rattle.std.specs.declared.cmp.Ordering.{Ordering}
use Rattle.kad_base.specs.declared.types.Ip.{Ip}
use Rattle.kad_base.specs.declared.types.Ip.TheVariants.{V4, V6}
use Rattle.kad_base.specs.declared.types.Addr.{Addr}
use Rattle.kad_base.specs.contracts.types.IpOrd.TheImpl as ip_ord
use Rattle.kad_base.specs.contracts.types.AddrOrd.TheImpl as addr_ord
use Rattle.std.specs.Option.{IfSome}
use Rattle.kad_base.specs.Contacts.{address_bytes}
use Rattle.kad_base.specs.Hosts.{host}
use Rattle.kad_base.specs.Limits.{max_peers}
use Rattle.aged_map.specs.PerHost.{holding, HasNoPlaceAt, HasNoPlaceAmong}
use Rattle.peer_store.specs.Peers.{Pair, PeersState, IsCrowded, HasNoPlace, with_add, address_cmp, pair_cmp, pair_host}

ip_agrees : (a b : Ip) → (ip_ord.ghosts).cmp a b ≡ slice_cmp nat_cmp (address_bytes a) (address_bytes b)
ip_agrees (V4 a) (V4 b) = refl
ip_agrees (V4 a) (V6 b) = refl
ip_agrees (V6 a) (V4 b) = refl
ip_agrees (V6 a) (V6 b) = refl

pub address_agrees : (a b : Addr) → (addr_ord.ghosts).cmp a b ≡ address_cmp a b
address_agrees a b = ap (λ o. ordering_then o (nat_cmp a.port b.port)) (ip_agrees a.ip b.ip)

-- the derived order of addresses, and of pairs
abbrev pub derived_address : Addr → Addr → Ordering
derived_address = (addr_ord.ghosts).cmp

abbrev pub derived : Pair → Pair → Ordering
derived a b = ordering_then (slice_cmp nat_cmp a.0.0 b.0.0) (derived_address a.1 b.1)

pub derived_is : derived ≡ pair_cmp
derived_is = λ i a b. ordering_then (slice_cmp nat_cmp a.0.0 b.0.0) (address_agrees a.1 b.1 i)

-- whether a pair is held, by either order
pub held_by : (s : PeersState) (pair : Pair) → list_any (λ p. is_eq (derived pair p)) (keys_of s.held) ≡ list_any (λ p. is_eq (pair_cmp pair p)) (keys_of s.held)
held_by s pair = ap (λ (R : Pair → Pair → Ordering). list_any (λ p. is_eq (R pair p)) (keys_of s.held)) derived_is

-- which pairs are refused, by either
pub crowded_by : (A : Type 0) (s : PeersState) (pair : Pair) → A ↔ HasNoPlaceAt derived pair_host s pair (host pair.1) → A ↔ IsCrowded s pair
crowded_by A s pair is = subst (λ (R : Pair → Pair → Ordering). A ↔ HasNoPlaceAt R pair_host s pair (host pair.1)) derived_is is

pub full_by : (A : Type 0) (s : PeersState) (pair : Pair) → A ↔ HasNoPlaceAmong derived pair_host s pair (host pair.1) max_peers → A ↔ HasNoPlace s pair
full_by A s pair is = subst (λ (R : Pair → Pair → Ordering). A ↔ HasNoPlaceAmong R pair_host s pair (host pair.1) max_peers) derived_is is

-- what is sorted by either
pub sorted_by : (pairs : List Pair) → IsStrictlySortedBy derived pairs → IsStrictlySortedBy pair_cmp pairs
sorted_by pairs s = subst (λ (R : Pair → Pair → Ordering). IsStrictlySortedBy R pairs) derived_is s

-- an insertion by either
pub put_by : (s : PeersState) (pair : Pair) (at : ℕ) → holding s (insert_entry derived s.held pair at) ≡ with_add s pair at
put_by s pair at = ap (λ (R : Pair → Pair → Ordering). holding s (insert_entry R s.held pair at)) derived_is

-- a pair that is held has its own host
pub own_host : (pair : Pair) (x : Option ℕ) → IfSome x (λ v. host pair.1 ≡ host pair.1)
own_host pair None = tt
own_host pair (Some v) = refl
