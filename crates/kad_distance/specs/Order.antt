-- The order of contacts by their distance to a target (Kademlia, 2002, section 2.1, with ties by address and port).
use Rattle.std.specs.Prelude.{◌≡◌}
use Rattle.std.specs.Ordering.{ordering_then, nat_cmp}
use Rattle.std.specs.Cmp.Lexicographic.{slice_cmp}
use Rattle.std.specs.declared.cmp.Ordering.{Ordering}
use Rattle.std.specs.declared.cmp.Ordering.TheVariants.{Less, Equal}
use Rattle.kad_base.specs.declared.types.Id.{Id}
use Rattle.kad_base.specs.declared.types.Contact.{Contact}
use Rattle.kad_base.specs.Bits.{xor_bytes}
use Rattle.kad_base.specs.Contacts.{address_bytes}

-- by the distance to the target as an unsigned number, then by address, then by port
abbrev pub closeness : Id → Contact → Contact → Ordering
closeness target a b =
    ordering_then (slice_cmp nat_cmp (xor_bytes target.0 a.id.0) (xor_bytes target.0 b.id.0))
    (ordering_then (slice_cmp nat_cmp (address_bytes a.addr.ip) (address_bytes b.addr.ip)) (nat_cmp a.addr.port b.addr.port))

abbrev pub IsCloser : Id → Contact → Contact → Type 0
IsCloser target a b = closeness target a b ≡ Less

-- only a contact ties with itself
abbrev pub TiesAreEqual : {K : Type 0} → (K → K → Ordering) → Type 0
TiesAreEqual {K} R = (a b : K) → R a b ≡ Equal → a ≡ b
