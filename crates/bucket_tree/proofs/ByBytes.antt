-- Prefixes that are compared byte by byte.
use Rattle.std.proofs.Common.{◌≡◌, ◌≢◌, ℕ, zero, suc, ◌+◌, ◌-◌, ◌*◌, ◌/◌, ◌%◌, ◌<◌, ◌≤◌, ◌&&◌, List, get_or, Bool, true, false, refl, sym, ap, ◌∙◌, arith}
use Rattle.std.specs.Prelude.{nat_eq}
use Rattle.std.specs.Int.{bit_at}
use Rattle.std.proofs.lemmas.Nat.Bits.{same_from_bits_below}
use Rattle.bucket_tree.specs.Partition.{bit, bits_from, begins, same_bit}
use Rattle.bucket_tree.proofs.Begun.{same_bit-itself}
use Rattle.bucket_tree.proofs.OneBit.{begins-step, bits_from-length}
use Rattle.bucket_tree.proofs.Ids.{get-bits}
use Rattle.bucket_tree.proofs.Nearer.{bit_same, begins_bit}

-- bits that agree are passed over
skip : (m at len : ℕ) (p w : List ℕ) → at + m ≤ len → len ≤ 160 → ((j : ℕ) → j < m → bit p (at + j) ≡ bit w (at + j))
    → begins (bits_from (len - at) at p) (bits_from (160 - at) at w) ≡ begins (bits_from (len - (at + m)) (at + m) p) (bits_from (160 - (at + m)) (at + m) w)
skip zero at len p w le few same = let e : at ≡ at + zero = omega arith in ap (λ (x : ℕ). begins (bits_from (len - x) x p) (bits_from (160 - x) x w)) e
skip (suc m) at len p w le few same =
    let start : at + 0 ≡ at = omega arith in
    let here : bit p at ≡ bit w at = sym (ap (bit p) start) ∙ same 0 (omega arith) ∙ ap (bit w) start in
    let alike : same_bit (bit p at) (bit w at) ≡ true = ap (λ (x : Bool). same_bit x (bit w at)) here ∙ same_bit-itself (bit w at) in
    let more : at + 1 + m ≡ at + suc m = omega arith in
    begins-step len at p w (omega arith) few
    ∙ ap (λ (t : Bool). t && begins (bits_from (len - (at + 1)) (at + 1) p) (bits_from (160 - (at + 1)) (at + 1) w)) alike
    ∙ skip m (at + 1) len p w (omega arith) few (λ j lt. (let next : at + 1 + j ≡ at + suc j = omega arith in ap (bit p) next ∙ same (suc j) (omega arith) ∙ sym (ap (bit w) next)))
    ∙ ap (λ (x : ℕ). begins (bits_from (len - x) x p) (bits_from (160 - x) x w)) more

-- a bit of a byte
bit-in : (bytes : List ℕ) (i j : ℕ) → j < 8 → bit bytes (8 * i + j) ≡ nat_eq (bit_at (get_or bytes i 0) (7 - j)) 1
bit-in bytes i j lt =
    let e : (8 * i + j) / 8 ≡ i = omega arith in
    let f : 7 - (8 * i + j) % 8 ≡ 7 - j = omega arith in
    ap (λ (x : ℕ). nat_eq (bit_at (get_or bytes x 0) (7 - (8 * i + j) % 8)) 1) e ∙ ap (λ (x : ℕ). nat_eq (bit_at (get_or bytes i 0) x) 1) f

pub byte-alike : (len i : ℕ) (p w : List ℕ) → i < len / 8 → len ≤ 160 → get_or p i 0 ≡ get_or w i 0
    → begins (bits_from (len - 8 * i) (8 * i) p) (bits_from (160 - 8 * i) (8 * i) w) ≡ begins (bits_from (len - 8 * (i + 1)) (8 * (i + 1)) p) (bits_from (160 - 8 * (i + 1)) (8 * (i + 1)) w)
byte-alike len i p w lt few same =
    let next : 8 * i + 8 ≡ 8 * (i + 1) = omega arith in
    skip 8 (8 * i) len p w (omega arith) few (λ j lt8. bit-in p i j lt8 ∙ ap (λ (x : ℕ). nat_eq (bit_at x (7 - j)) 1) same ∙ sym (bit-in w i j lt8))
    ∙ ap (λ (x : ℕ). begins (bits_from (len - x) x p) (bits_from (160 - x) x w)) next

agree : (n m s : ℕ) (p w : List ℕ) → begins (bits_from n s p) (bits_from m s w) ≡ true → (i : ℕ) → i < n → bit p (s + i) ≡ bit w (s + i)
agree n m s p w e i lt = let long = bits_from-length n s p in sym (begins_bit (bits_from n s p) m s i w e (omega (arith, long, lt)) ∙ get-bits n s i p lt)

pub byte-unlike : (len i : ℕ) (p w : List ℕ) → i < len / 8 → ((j : ℕ) → get_or p j 0 < 256) → ((j : ℕ) → get_or w j 0 < 256) → get_or p i 0 ≢ get_or w i 0 → begins (bits_from (len - 8 * i) (8 * i) p) (bits_from (160 - 8 * i) (8 * i) w) ≡ false
byte-unlike len i p w lt sp sw unlike = go (begins (bits_from (len - 8 * i) (8 * i) p) (bits_from (160 - 8 * i) (8 * i) w)) refl
  where
    one : begins (bits_from (len - 8 * i) (8 * i) p) (bits_from (160 - 8 * i) (8 * i) w) ≡ true → (j : ℕ) → j < 8 → bit_at (get_or p i 0) j ≡ bit_at (get_or w i 0) j
    one e j lt8 =
        let back : 7 - (7 - j) ≡ j = omega arith in
        let b = agree (len - 8 * i) (160 - 8 * i) (8 * i) p w e (7 - j) (omega arith) in
        sym (ap (bit_at (get_or p i 0)) back) ∙ bit_same (get_or p i 0) (get_or w i 0) (7 - (7 - j)) (7 - (7 - j)) (sym (bit-in p i (7 - j) (omega arith)) ∙ b ∙ bit-in w i (7 - j) (omega arith)) ∙ ap (bit_at (get_or w i 0)) back

    go : (t : Bool) → begins (bits_from (len - 8 * i) (8 * i) p) (bits_from (160 - 8 * i) (8 * i) w) ≡ t → begins (bits_from (len - 8 * i) (8 * i) p) (bits_from (160 - 8 * i) (8 * i) w) ≡ false
    go false e = e
    go true e = absurd (unlike (same_from_bits_below 8 (get_or p i 0) (get_or w i 0) (sp i) (sw i) (one e)))
