-- Contacts: the triple of identifier, address and port (Kademlia, 2002, section 2.1).
use Rattle.std.specs.Prelude.{◌≢◌, ℕ, List, ◌∷◌, Bool, true, false, filter, not}
use Rattle.std.specs.List.{list_any}
use Rattle.std.specs.Ordering.{ordering_then, is_eq, nat_cmp}
use Rattle.std.specs.Cmp.Lexicographic.{slice_cmp}
use Rattle.std.specs.declared.cmp.Ordering.{Ordering}
use Rattle.kad_base.specs.declared.types.Id.{Id}
use Rattle.kad_base.specs.declared.types.Ip.{Ip}
use Rattle.kad_base.specs.declared.types.Ip.TheVariants.{V4, V6}
use Rattle.kad_base.specs.declared.types.Family.{Family}
use Rattle.kad_base.specs.declared.types.Family.TheVariants.{Four, Six}
use Rattle.kad_base.specs.declared.types.Contact.{Contact}

-- the bytes of an address alone
abbrev pub octets : Ip → List ℕ
octets (V4 bytes) = bytes
octets (V6 bytes) = bytes

-- an address as bytes: those of IPv4 come before those of IPv6, and each by its bytes
abbrev pub address_bytes : Ip → List ℕ
address_bytes (V4 bytes) = 4 ∷ bytes
address_bytes (V6 bytes) = 6 ∷ bytes

-- the network of an address; BEP 32 keeps that of IPv4 and that of IPv6 apart
abbrev pub family : Ip → Family
family (V4 bytes) = Four
family (V6 bytes) = Six

-- the address is of the network
abbrev pub of_family : Family → Ip → Bool
of_family Four (V4 bytes) = true
of_family Four (V6 bytes) = false
of_family Six (V4 bytes) = false
of_family Six (V6 bytes) = true

-- a total order of contacts, by which they are told apart: identifier, address, port
abbrev pub contact_cmp : Contact → Contact → Ordering
contact_cmp a b =
    ordering_then (slice_cmp nat_cmp a.id.0 b.id.0)
    (ordering_then (slice_cmp nat_cmp (address_bytes a.addr.ip) (address_bytes b.addr.ip)) (nat_cmp a.addr.port b.addr.port))

-- the two are one contact
abbrev pub same : Contact → Contact → Bool
same a b = is_eq (contact_cmp a b)

-- the contact stands in the list
abbrev pub among : List Contact → Contact → Bool
among cs c = list_any (same c) cs

-- those of the first list that don't stand in the second
abbrev pub without : List Contact → List Contact → List Contact
without cs out = filter (λ c. not (among out c)) cs

-- a node with this identifier may ask the contact
abbrev pub IsUsable : Id → Contact → Type 0
IsUsable own c = (c.id ≢ own) × (c.addr.port ≢ 0)
