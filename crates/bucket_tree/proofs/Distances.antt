-- Whoever is farther than the last of a sorted list is farther than each.
use Rattle.std.proofs.Common.{◌≡◌, ◌-◌, ◌<◌, List, length, get_or, ap}
use Rattle.std.specs.List.{All}
use Rattle.std.specs.List.Sorted.{IsStrictlySortedBy}
use Rattle.std.specs.Ordering.{nat_cmp, ordering_then}
use Rattle.std.specs.Cmp.Lexicographic.{slice_cmp}
use Rattle.std.specs.declared.cmp.Ordering.TheVariants.{Less}
use Rattle.kad_base.specs.declared.types.Id.{Id}
use Rattle.kad_base.specs.declared.types.Contact.{Contact}
use Rattle.kad_base.specs.Bits.{xor_bytes}
use Rattle.kad_base.specs.Contacts.{address_bytes}
use Rattle.kad_distance.specs.Order.{closeness, IsCloser}
use Rattle.kad_distance.proofs.Stays.{all_closer}

-- a contact whose distance is above that of the last is farther than each
pub all_nearer_than : (target : Id) (near : List Contact) (c last : Contact) → IsStrictlySortedBy (closeness target) near → 0 < length near → last ≡ get_or near (length near - 1) last
    → slice_cmp nat_cmp (xor_bytes target.0 last.id.0) (xor_bytes target.0 c.id.0) ≡ Less → All (λ x. IsCloser target x c) near
all_nearer_than target near c last sorted some is less =
    let closer : IsCloser target last c = ap (λ o. ordering_then o (ordering_then (slice_cmp nat_cmp (address_bytes last.addr.ip) (address_bytes c.addr.ip)) (nat_cmp last.addr.port c.addr.port))) less in
    all_closer target near c last sorted some is closer
