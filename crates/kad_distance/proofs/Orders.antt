-- The order of contacts by distance is total, and only a contact ties with itself: XOR can be undone.
use Rattle.std.proofs.Common.{◌≡◌, ℕ, List, [], ◌∷◌, refl, sym, ap, ◌∙◌}
use Rattle.std.specs.Prelude.{bit_xor}
use Rattle.std.specs.Int.Bits.{xor_self, xor_zero_l, xor_assoc}
use Rattle.std.specs.Ordering.{ordering_then, nat_cmp}
use Rattle.std.specs.Cmp.{IsTotalOrder}
use Rattle.std.specs.Cmp.Lexicographic.{slice_cmp}
use Rattle.std.proofs.lemmas.Cmp.{nat_list_cmp_total, nat_cmp_total, on_total, then_total}
use Rattle.std.proofs.lemmas.Map.Lookups.{exact_pairs, exact_unsigned, exact_bytes}
use Rattle.kad_base.specs.declared.types.Id.{Id}
use Rattle.kad_base.specs.declared.types.Contact.{Contact}
use Rattle.kad_base.specs.Bits.{xor_bytes}
use Rattle.kad_base.specs.Contacts.{address_bytes}
use Rattle.kad_base.proofs.Contacts.{address_exact, same_contact}
use Rattle.kad_distance.specs.Order.{closeness, TiesAreEqual}

xor_twice : (a b : ℕ) → bit_xor a (bit_xor a b) ≡ b
xor_twice a b = sym (xor_assoc a a b) ∙ ap (λ n. bit_xor n b) (xor_self a) ∙ xor_zero_l b

bytes_twice : (x y : List ℕ) → xor_bytes x (xor_bytes x y) ≡ y
bytes_twice x [] = refl
bytes_twice [] (b ∷ y) = refl
bytes_twice (a ∷ x) (b ∷ y) = rw (xor_twice a b, bytes_twice x y) refl

-- two that are at one distance are one
distance_exact : (x y z : List ℕ) → xor_bytes x y ≡ xor_bytes x z → y ≡ z
distance_exact x y z e = sym (bytes_twice x y) ∙ ap (xor_bytes x) e ∙ bytes_twice x z

pub closeness_total : (target : Id) → IsTotalOrder (closeness target)
closeness_total target =
    then_total (on_total (λ (c : Contact). xor_bytes target.0 c.id.0) nat_list_cmp_total)
    (then_total (on_total (λ (c : Contact). address_bytes c.addr.ip) nat_list_cmp_total) (on_total (λ (c : Contact). c.addr.port) nat_cmp_total))

pub closeness_exact : (target : Id) → TiesAreEqual (closeness target)
closeness_exact target a b tie =
    let R = slice_cmp nat_cmp in
    let last = exact_pairs R nat_cmp exact_bytes exact_unsigned in
    let p = exact_pairs R (λ (x y : List ℕ × ℕ). ordering_then (R x.0 y.0) (nat_cmp x.1 y.1)) exact_bytes last
    (xor_bytes target.0 a.id.0, (address_bytes a.addr.ip, a.addr.port)) (xor_bytes target.0 b.id.0, (address_bytes b.addr.ip, b.addr.port)) tie in
    same_contact _ _ _ _ _ _ (distance_exact target.0 a.id.0 b.id.0 (ap (λ (q : List ℕ × (List ℕ × ℕ)). q.0) p))
    (address_exact a.addr.ip b.addr.ip (ap (λ (q : List ℕ × (List ℕ × ℕ)). q.1.0) p)) (ap (λ (q : List ℕ × (List ℕ × ℕ)). q.1.1) p)
