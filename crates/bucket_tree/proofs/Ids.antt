-- Identifiers of 20 bytes are told apart by their 160 bits.
use Rattle.std.proofs.Common.{◌≡◌, ◌≢◌, ℕ, zero, suc, ◌+◌, ◌-◌, ◌*◌, ◌/◌, ◌%◌, ◌<◌, List, length, get_or, Bool, true, false, refl, sym, ap, ◌∙◌, arith}
use Rattle.std.specs.Prelude.{nat_eq}
use Rattle.std.specs.Int.{bit_at}
use Rattle.std.specs.Ordering.{is_eq, nat_cmp}
use Rattle.std.specs.Cmp.Lexicographic.{slice_cmp}
use Rattle.std.specs.declared.cmp.Ordering.{Ordering}
use Rattle.std.specs.declared.cmp.Ordering.TheVariants.{Less, Equal, Greater}
use Rattle.std.proofs.lemmas.Cmp.{nat_list_cmp_total, tied_itself}
use Rattle.std.proofs.lemmas.Map.Lookups.{exact_bytes}
use Rattle.std.proofs.lemmas.Nat.Bits.{same_from_bits_below, bit_at-lt}
use Rattle.std.proofs.lemmas.List.{ext_get_or}
use Rattle.kad_base.specs.declared.types.Id.{Id}
use Rattle.kad_base.specs.declared.types.Contact.{Contact}
use Rattle.kad_base.specs.Contacts.{same}
use Rattle.kad_base.proofs.Contacts.{same_exact}
use Rattle.bucket_tree.specs.Partition.{bit, bits_from, id_bits}
use Rattle.bucket_tree.specs.Rows.{same_id}
use Rattle.bucket_tree.proofs.OneBit.{id_bits-is}

is_eq-tie : (o : Ordering) → is_eq o ≡ true → o ≡ Equal
is_eq-tie Less e = absurd cc
is_eq-tie Equal e = refl
is_eq-tie Greater e = absurd cc

pub same_id-bytes : (x y : Id) → same_id x y ≡ true → x.0 ≡ y.0
same_id-bytes x y e = exact_bytes x.0 y.0 (is_eq-tie (slice_cmp nat_cmp x.0 y.0) e)

abbrev id_of : List ℕ → Id
id_of bytes = record { 0 = bytes }

pub same_id-exact : (x y : Id) → same_id x y ≡ true → x ≡ y
same_id-exact x y e = ap id_of (same_id-bytes x y e)

pub same_id-itself : (x : Id) → same_id x x ≡ true
same_id-itself x = ap is_eq (tied_itself nat_list_cmp_total x.0)

pub same_id-contact : (x y : Contact) → same x y ≡ true → same_id y.id x.id ≡ true
same_id-contact x y e = let f : x ≡ y = same_exact x y e in ap (λ (z : Contact). same_id y.id z.id) f ∙ same_id-itself y.id

pub get-bits : (n i j : ℕ) (bytes : List ℕ) → j < n → get_or (bits_from n i bytes) j false ≡ bit bytes (i + j)
unfolding bits_from
get-bits zero i j bytes lt = absurd (omega arith)
get-bits (suc n) i zero bytes lt = let e : i + zero ≡ i = omega arith in ap (bit bytes) (sym e)
get-bits (suc n) i (suc j) bytes lt = let e : i + 1 + j ≡ i + suc j = omega arith in get-bits n (i + 1) j bytes (omega arith) ∙ ap (bit bytes) e

same-bit : (a b : List ℕ) (i : ℕ) → bits_from 160 0 a ≡ bits_from 160 0 b → i < 160 → bit a i ≡ bit b i
same-bit a b i e lt =
    let f : 0 + i ≡ i = omega arith in
    ap (bit a) (sym f) ∙ sym (get-bits 160 0 i a lt) ∙ ap (λ (l : List Bool). get_or l i false) e ∙ get-bits 160 0 i b lt ∙ ap (bit b) f

one_or_none : (m n : ℕ) → m < 2 → n < 2 → nat_eq m 1 ≡ nat_eq n 1 → m ≡ n
one_or_none zero zero l k e = refl
one_or_none zero (suc zero) l k e = absurd cc
one_or_none zero (suc (suc n)) l k e = absurd (omega arith)
one_or_none (suc zero) zero l k e = absurd cc
one_or_none (suc zero) (suc zero) l k e = refl
one_or_none (suc zero) (suc (suc n)) l k e = absurd (omega arith)
one_or_none (suc (suc m)) n l k e = absurd (omega arith)

same-byte : (a b : List ℕ) (k : ℕ) → bits_from 160 0 a ≡ bits_from 160 0 b → k < 20 → (j : ℕ) → j < 8 → bit_at (get_or a k 0) j ≡ bit_at (get_or b k 0) j
same-byte a b k e lt j few =
    let i = 8 * k + (7 - j) in
    let q : i / 8 ≡ k = omega arith in
    let r : 7 - i % 8 ≡ j = omega arith in
    let s : bit a i ≡ bit b i = same-bit a b i e (omega arith) in
    let t = ap (λ (x : ℕ). nat_eq (bit_at (get_or a x 0) (7 - i % 8)) 1) q ∙ ap (λ (x : ℕ). nat_eq (bit_at (get_or a k 0) x) 1) r in
    let u = ap (λ (x : ℕ). nat_eq (bit_at (get_or b x 0) (7 - i % 8)) 1) q ∙ ap (λ (x : ℕ). nat_eq (bit_at (get_or b k 0) x) 1) r in
    one_or_none _ _ (bit_at-lt (get_or a k 0) j) (bit_at-lt (get_or b k 0) j) (sym t ∙ s ∙ u)

pub same_bits-id : (x y : Id) → length x.0 ≡ 20 → length y.0 ≡ 20 → ((i : ℕ) → get_or x.0 i 0 < 256) → ((i : ℕ) → get_or y.0 i 0 < 256) → id_bits x ≡ id_bits y → same_id x y ≡ true
same_bits-id x y lx ly bx by e =
    let f : bits_from 160 0 x.0 ≡ bits_from 160 0 y.0 = sym (id_bits-is x) ∙ e ∙ id_bits-is y in
    let bytes : x.0 ≡ y.0 = ext_get_or 0 x.0 y.0 (lx ∙ sym ly) (λ i lt. same_from_bits_below 8 _ _ (bx i) (by i) (same-byte x.0 y.0 i f (omega (arith, lx)))) in
    ap (λ (l : List ℕ). is_eq (slice_cmp nat_cmp l y.0)) bytes ∙ same_id-itself y

-- identifiers that differ in a byte are two
pub differ-id : (x y : Id) (i : ℕ) → get_or x.0 i 0 ≢ get_or y.0 i 0 → false ≡ same_id x y
differ-id x y i ne = go (same_id x y) refl
  where
    go : (t : Bool) → same_id x y ≡ t → false ≡ same_id x y
    go false e = sym e
    go true e = absurd (ne (ap (λ (l : List ℕ). get_or l i 0) (same_id-bytes x y e)))
