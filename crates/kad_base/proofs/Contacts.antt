-- Contacts are told apart by their order.
use Rattle.std.proofs.Common.{◌≡◌, ◌≢◌, ◌↔◌, ℕ, List, ◌++◌, get_or, Bool, true, false, IsTrue, ◌||◌, refl, sym, ap, ◌∙◌, arith}
use Rattle.std.specs.Ordering.{ordering_then, nat_cmp, is_eq}
use Rattle.std.specs.Cmp.{IsTotalOrder}
use Rattle.std.specs.Cmp.Lexicographic.{slice_cmp}
use Rattle.std.specs.declared.cmp.Ordering.{Ordering}
use Rattle.std.specs.declared.cmp.Ordering.TheVariants.{Less, Equal, Greater}
use Rattle.std.proofs.lemmas.Cmp.{nat_list_cmp_total, nat_cmp_total, on_total, then_total, eq_by_cmp_equiv, tied_itself}
use Rattle.std.proofs.lemmas.Map.Lookups.{exact_pairs, exact_unsigned, exact_bytes}
use Rattle.std.proofs.lemmas.List.Folds.{list_any-append}
use Rattle.kad_base.specs.declared.types.Ip.{Ip}
use Rattle.kad_base.specs.declared.types.Ip.TheVariants.{V4, V6}
use Rattle.kad_base.specs.declared.types.Contact.{Contact}
use Rattle.kad_base.specs.Contacts.{address_bytes, contact_cmp, same, among}

pub contact_total : IsTotalOrder contact_cmp
contact_total =
    then_total (on_total (λ (c : Contact). c.id.0) nat_list_cmp_total)
    (then_total (on_total (λ (c : Contact). address_bytes c.addr.ip) nat_list_cmp_total) (on_total (λ (c : Contact). c.addr.port) nat_cmp_total))

pub same_itself : (c : Contact) → same c c ≡ true
same_itself c = ap is_eq (tied_itself contact_total c)

pub same_back : (a b : Contact) → same a b ≡ same b a
same_back a b = (eq_by_cmp_equiv contact_total).symm a b

pub address_exact : (a b : Ip) → address_bytes a ≡ address_bytes b → a ≡ b
address_exact (V4 a) (V4 b) e = let h : a ≡ b = cc in ap V4 h
address_exact (V4 a) (V6 b) e = let h : 4 ≡ 6 = ap (λ l. get_or l 0 0) e in absurd (omega (arith, h))
address_exact (V6 a) (V4 b) e = let h : 6 ≡ 4 = ap (λ l. get_or l 0 0) e in absurd (omega (arith, h))
address_exact (V6 a) (V6 b) e = let h : a ≡ b = cc in ap V6 h

abbrev contact_of : List ℕ → Ip → ℕ → Contact
contact_of bytes ip port = record { id = record { 0 = bytes }; addr = record { ip = ip; port = port } }

pub same_contact : (x y : List ℕ) (i j : Ip) (p q : ℕ) → x ≡ y → i ≡ j → p ≡ q → contact_of x i p ≡ contact_of y j q
same_contact x y i j p q f g h = cc

-- contacts that tie are one
contact_exact : (a b : Contact) → contact_cmp a b ≡ Equal → a ≡ b
contact_exact a b tie =
    let R = slice_cmp nat_cmp in
    let last = exact_pairs R nat_cmp exact_bytes exact_unsigned in
    let p = exact_pairs R (λ (x y : List ℕ × ℕ). ordering_then (R x.0 y.0) (nat_cmp x.1 y.1)) exact_bytes last
    (a.id.0, (address_bytes a.addr.ip, a.addr.port)) (b.id.0, (address_bytes b.addr.ip, b.addr.port)) tie in
    same_contact _ _ _ _ _ _ (ap (λ (q : List ℕ × (List ℕ × ℕ)). q.0) p)
    (address_exact a.addr.ip b.addr.ip (ap (λ (q : List ℕ × (List ℕ × ℕ)). q.1.0) p)) (ap (λ (q : List ℕ × (List ℕ × ℕ)). q.1.1) p)

is_eq_tie : (o : Ordering) → is_eq o ≡ true → o ≡ Equal
is_eq_tie Less e = absurd cc
is_eq_tie Equal e = refl
is_eq_tie Greater e = absurd cc

pub same_exact : (a b : Contact) → same a b ≡ true → a ≡ b
same_exact a b e = contact_exact a b (is_eq_tie (contact_cmp a b) e)

pub among_more : (cs ds : List Contact) (c : Contact) → among (cs ++ ds) c ≡ (among cs c || among ds c)
among_more cs ds c = list_any-append (same c) cs ds

-- contacts that differ in a byte of the identifier are two
pub differ_contact : (x y : Contact) (i : ℕ) → get_or x.id.0 i 0 ≢ get_or y.id.0 i 0 → false ≡ same x y
differ_contact x y i ne = go (same x y) refl
  where
    go : (t : Bool) → same x y ≡ t → false ≡ same x y
    go false e = sym e
    go true e = absurd (ne (ap (λ (c : Contact). get_or c.id.0 i 0) (same_exact x y e)))

-- a test of equality is the sameness
pub same_equal : (t : Bool) (a b : Contact) → IsTrue t ↔ (a ≡ b) → t ≡ same a b
same_equal true a b h = sym (ap (same a) (sym (h.0 refl)) ∙ same_itself a)
same_equal false a b h = sym (not_same (same a b) refl)
  where
    not_same : (s : Bool) → same a b ≡ s → s ≡ false
    not_same false e = refl
    not_same true e = sym (h.1 (same_exact a b e))
