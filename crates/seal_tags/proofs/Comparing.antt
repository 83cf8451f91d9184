-- Bytes that are compared by OR of XOR.
use Rattle.std.proofs.Common.{◌≡◌, ◌↔◌, IsTrue, ℕ, ◌+◌, ◌<◌, nat_eq, Bool, true, false, List, length, get_or, refl, sym, ap, ◌∙◌, arith, eq-eqb}
use Rattle.std.specs.Int.Bits.{bit_or, bit_xor, or_add_and, and_le_l, and_le_r, or_zero_l, xor_assoc, xor_self, xor_zero_l, xor_zero_r}
use Rattle.std.proofs.lemmas.List.{ext_get_or}
use Rattle.std.proofs.lemmas.Slice.Eq.{bytes_eq-Decides}
use Rattle.std.proofs.lemmas.Bool.{eqb-true}
use Rattle.std.specs.Bool.{Decides}
use Rattle.std.specs.Str.{bytes_eq}

-- an OR is zero where both are
pub or_parts : (a b : ℕ) → bit_or a b ≡ 0 → (a ≡ 0) × (b ≡ 0)
or_parts a b e =
    let sum = or_add_and a b in
    let left = and_le_l a b in
    let right = and_le_r a b in
    (omega (arith, e, sum, left, right), omega (arith, e, sum, left, right))

-- an XOR is zero where both are the same
pub xor_same : (a b : ℕ) → bit_xor a b ≡ 0 → a ≡ b
xor_same a b e =
    sym (xor_zero_r a) ∙ sym (ap (bit_xor a) (xor_self b)) ∙ sym (xor_assoc a b b) ∙ ap (λ n. bit_xor n b) e ∙ xor_zero_l b

pub same_xor : (a b : ℕ) → a ≡ b → bit_xor a b ≡ 0
same_xor a b e = ap (λ n. bit_xor n b) e ∙ xor_self b

-- the bytes before a place are the same
abbrev pub SameBefore : ℕ → List ℕ → List ℕ → Type 0
SameBefore n a b = (i : ℕ) → i < n → get_or a i 0 ≡ get_or b i 0

-- one more byte
pub same_more : (a b : List ℕ) (n d : ℕ) → (d ≡ 0) ↔ SameBefore n a b
    → (bit_or d (bit_xor (get_or a n 0) (get_or b n 0)) ≡ 0) ↔ SameBefore (n + 1) a b
same_more a b n d known = (forth, back)
  where
    x : ℕ
    x = bit_xor (get_or a n 0) (get_or b n 0)

    forth : bit_or d x ≡ 0 → SameBefore (n + 1) a b
    forth e i lt =
        let here : get_or a n 0 ≡ get_or b n 0 = xor_same _ _ (or_parts d x e).1 in
        let before : SameBefore n a b = known.0 (or_parts d x e).0 in
        grind (arith, here, before)

    back : SameBefore (n + 1) a b → bit_or d x ≡ 0
    back all =
        let zero : d ≡ 0 = known.1 (λ i lt. all i (omega arith)) in
        let same : x ≡ 0 = same_xor _ _ (all n (omega arith)) in
        ap (λ m. bit_or m x) zero ∙ or_zero_l x ∙ same

-- all bytes
pub same_all : (a b : List ℕ) (n d : ℕ) → length a ≡ n → length b ≡ n → (d ≡ 0) ↔ SameBefore n a b → (IsTrue (nat_eq d 0)) ↔ (a ≡ b)
same_all a b n d la lb known = (forth, back)
  where
    forth : IsTrue (nat_eq d 0) → a ≡ b
    forth e =
        let zero : d ≡ 0 = eqb-true d 0 e in
        ext_get_or 0 a b (la ∙ sym lb) (λ i lt. known.0 zero i (omega arith))

    back : a ≡ b → IsTrue (nat_eq d 0)
    back e = eq-eqb d 0 (known.1 (λ i lt. ap (λ l. get_or l i 0) e))

-- bytes of another length are others
pub other_length : (a b : List ℕ) (n : ℕ) → length b ≡ n → ¬ (length a ≡ n) → false ≡ bytes_eq a b
other_length a b n lb other = by (bytes_eq a b) (bytes_eq-Decides a b)
  where
    by : (r : Bool) → Decides r (a ≡ b) → false ≡ r
    by true d = absurd (other (ap length (d.0 refl) ∙ lb))
    by false d = refl
