-- Bits of bytes, one after the other.
use Rattle.std.proofs.Common.{◌≡◌, ◌≢◌, ℕ, zero, suc, ◌+◌, ◌-◌, ◌/◌, ◌%◌, ◌<◌, ◌≤◌, ◌&&◌, List, [], ◌∷◌, ◌++◌, length, get_or, set, replicate, Bool, true, false, refl, sym, ap, ◌∙◌, inl, inr, arith, eq-eqb}
use Rattle.std.specs.Prelude.{bit_or, ◌^◌, ◌*◌, ◌⊎◌, nat_eq}
use Rattle.std.specs.Int.{bit_at, w8}
use Rattle.std.proofs.lemmas.Nat.Bits.{bit_at_set_same, bit_at_set_other}
use Rattle.std.proofs.lemmas.Bool.{cases_lt}
use Rattle.std.proofs.lemmas.List.{get_or-set_same, get_or-set_other}
use mathlib.Core.Bool.{beq, not}
use Rattle.kad_base.specs.declared.types.Id.{Id}
use Rattle.bucket_tree.specs.Stored.{IsPrefix}
use Rattle.bucket_tree.specs.Partition.{bit, bits_from, id_bits, begins, same_bit}

pub bits_from-length : (n i : ℕ) (bytes : List ℕ) → length (bits_from n i bytes) ≡ n
unfolding bits_from
bits_from-length zero i bytes = refl
bits_from-length (suc n) i bytes = ap suc (bits_from-length n (i + 1) bytes)

pub bits_from-append : (n m i : ℕ) (bytes : List ℕ) → bits_from (n + m) i bytes ≡ bits_from n i bytes ++ bits_from m (i + n) bytes
unfolding bits_from
bits_from-append zero m i bytes =
    let e : zero + m ≡ m = omega arith in
    let f : i + zero ≡ i = omega arith in
    rw (e, f) refl
bits_from-append (suc n) m i bytes =
    let e : suc n + m ≡ suc (n + m) = omega arith in
    let f : i + suc n ≡ i + 1 + n = omega arith in
    ap (λ (x : ℕ). bits_from x i bytes) e ∙ ap (λ (l : List Bool). bit bytes i ∷ l) (bits_from-append n m (i + 1) bytes)
    ∙ ap (λ (x : ℕ). bit bytes i ∷ bits_from n (i + 1) bytes ++ bits_from m x bytes) (sym f)

pub bits_from-one : (i : ℕ) (bytes : List ℕ) → bits_from 1 i bytes ≡ bit bytes i ∷ []
unfolding bits_from
bits_from-one i bytes = refl

pub bits_from-none : (i : ℕ) (bytes : List ℕ) → bits_from 0 i bytes ≡ []
unfolding bits_from
bits_from-none i bytes = refl

pub bits_from-more : (n : ℕ) (bytes : List ℕ) → bits_from (n + 1) 0 bytes ≡ bits_from n 0 bytes ++ bit bytes n ∷ []
bits_from-more n bytes =
    let f : 0 + n ≡ n = omega arith in
    bits_from-append n 1 0 bytes ∙ ap (λ (l : List Bool). bits_from n 0 bytes ++ l) (bits_from-one (0 + n) bytes ∙ ap (λ (x : ℕ). bit bytes x ∷ []) f)

pub bits_from-same : (n i : ℕ) (a b : List ℕ) → ((j : ℕ) → i ≤ j → j < i + n → bit a j ≡ bit b j) → bits_from n i a ≡ bits_from n i b
unfolding bits_from
bits_from-same zero i a b f = refl
bits_from-same (suc n) i a b f =
    let here : bit a i ≡ bit b i = f i (omega arith) (omega arith) in
    let rest : bits_from n (i + 1) a ≡ bits_from n (i + 1) b = bits_from-same n (i + 1) a b (λ j le lt. f j (omega arith) (omega arith)) in
    cc

pub bits_from-clear : (n i : ℕ) (bytes : List ℕ) → ((j : ℕ) → i ≤ j → j < i + n → bit bytes j ≡ false) → bits_from n i bytes ≡ replicate n false
unfolding bits_from
bits_from-clear zero i bytes f = refl
bits_from-clear (suc n) i bytes f =
    let here : bit bytes i ≡ false = f i (omega arith) (omega arith) in
    let rest : bits_from n (i + 1) bytes ≡ replicate n false = bits_from-clear n (i + 1) bytes (λ j le lt. f j (omega arith) (omega arith)) in
    cc

-- the bits that are left to compare
pub begins-step : (len at : ℕ) (p w : List ℕ) → at < len → len ≤ 160
    → begins (bits_from (len - at) at p) (bits_from (160 - at) at w) ≡ (same_bit (bit p at) (bit w at) && begins (bits_from (len - (at + 1)) (at + 1) p) (bits_from (160 - (at + 1)) (at + 1) w))
unfolding bits_from
begins-step len at p w lt le =
    let e : len - at ≡ suc (len - (at + 1)) = omega arith in
    let f : 160 - at ≡ suc (160 - (at + 1)) = omega arith in
    ap (λ (x : ℕ). begins (bits_from x at p) (bits_from (160 - at) at w)) e ∙ ap (λ (x : ℕ). begins (bits_from (suc (len - (at + 1))) at p) (bits_from x at w)) f

pub begins-start : (len : ℕ) (p w : List ℕ) → begins (bits_from (len - 0) 0 p) (bits_from (160 - 0) 0 w) ≡ begins (bits_from len 0 p) (bits_from 160 0 w)
begins-start len p w = let e : len - 0 ≡ len = omega arith in ap (λ (x : ℕ). begins (bits_from x 0 p) (bits_from 160 0 w)) e

pub begins-end : (len at : ℕ) (p w : List ℕ) → len ≤ at → begins (bits_from (len - at) at p) (bits_from (160 - at) at w) ≡ true
unfolding bits_from
begins-end len at p w le = let e : len - at ≡ zero = omega arith in ap (λ (x : ℕ). begins (bits_from x at p) (bits_from (160 - at) at w)) e

-- a bit that is set
module _ (bytes : List ℕ) (at : ℕ) (within : at / 8 < length bytes) where
  set_byte : List ℕ
  set_byte = set bytes (at / 8) (bit_or (get_or bytes (at / 8) 0) (1 * 2 ^ (7 - at % 8) % 256))

  pub bit-set_same : bit (set bytes (at / 8) (bit_or (get_or bytes (at / 8) 0) (1 * 2 ^ (7 - at % 8) % 256))) at ≡ true
  bit-set_same =
      let n = get_or bytes (at / 8) 0 in
      let v = bit_or n (1 * 2 ^ (7 - at % 8) % 256) in
      let e : get_or (set bytes (at / 8) v) (at / 8) 0 ≡ v = get_or-set_same bytes (at / 8) v 0 within in
      let s : bit_at v (7 - at % 8) ≡ 1 = bit_at_set_same w8 n (7 - at % 8) (omega arith) in
      eq-eqb _ _ (ap (λ (x : ℕ). bit_at x (7 - at % 8)) e ∙ s)

  pub bit-set_other : (i : ℕ) → i ≢ at → bit (set bytes (at / 8) (bit_or (get_or bytes (at / 8) 0) (1 * 2 ^ (7 - at % 8) % 256))) i ≡ bit bytes i
  bit-set_other i ne =
      let n = get_or bytes (at / 8) 0 in
      let v = bit_or n (1 * 2 ^ (7 - at % 8) % 256) in
      elim (near (i / 8) (at / 8)) [
        | inl same ↦
            let far : 7 - i % 8 ≢ 7 - at % 8 = λ q. ne (omega (arith, q, same)) in
            let e : get_or (set bytes (at / 8) v) (i / 8) 0 ≡ v = ap (λ (x : ℕ). get_or (set bytes (at / 8) v) x 0) same ∙ get_or-set_same bytes (at / 8) v 0 within in
            let s : bit_at v (7 - i % 8) ≡ bit_at n (7 - i % 8) = bit_at_set_other w8 n (7 - at % 8) (omega arith) (7 - i % 8) far in
            ap (λ (x : ℕ). nat_eq x 1) (ap (λ (x : ℕ). bit_at x (7 - i % 8)) e ∙ s ∙ ap (λ (x : ℕ). bit_at (get_or bytes x 0) (7 - i % 8)) (sym same))
        | inr other ↦
            let e : get_or (set bytes (at / 8) v) (i / 8) 0 ≡ get_or bytes (i / 8) 0 = get_or-set_other bytes (at / 8) (i / 8) v 0 other in
            ap (λ (x : ℕ). nat_eq (bit_at x (7 - i % 8)) 1) e
      ]
    where
      near : (a b : ℕ) → (a ≡ b) ⊎ (a ≢ b)
      near a b = elim (cases_lt a b) [
        | inl lt ↦ inr (λ e. absurd (omega arith))
        | inr le ↦ elim (cases_lt b a) [ inl lt ↦ inr (λ e. absurd (omega arith)) | inr ge ↦ inl (omega arith) ]
      ]

pub id_bits-is : (id : Id) → id_bits id ≡ bits_from 160 0 id.0
unfolding id_bits
id_bits-is id = refl

pub same_bit-alike : (x y a b : Bool) → a ≡ x → b ≡ y → not (beq a b) ≡ false → same_bit x y ≡ true
same_bit-alike x y a b e f n = rw (← e, ← f) (go a b n)
  where
    go : (a b : Bool) → not (beq a b) ≡ false → same_bit a b ≡ true
    go true true n = refl
    go true false n = absurd cc
    go false true n = absurd cc
    go false false n = refl

pub same_bit-unlike : (x y a b : Bool) → a ≡ x → b ≡ y → not (beq a b) ≡ true → same_bit x y ≡ false
same_bit-unlike x y a b e f n = rw (← e, ← f) (go a b n)
  where
    go : (a b : Bool) → not (beq a b) ≡ true → same_bit a b ≡ false
    go true true n = absurd cc
    go true false n = refl
    go false true n = refl
    go false false n = absurd cc

-- a stored prefix
pub len-is : (n : ℕ) (bytes : List ℕ) (v : List Bool) → bits_from n 0 bytes ≡ v → n ≡ length v
len-is n bytes v e = sym (bits_from-length n 0 bytes) ∙ ap length e

pub stored-bits : (id : Id) (n : ℕ) (v : List Bool) → bits_from n 0 id.0 ≡ v → IsPrefix id.0 n → id_bits id ≡ v ++ replicate (160 - length v) false
stored-bits id n v e is =
    let l : n ≡ length v = len-is n id.0 v e in
    let le : n ≤ 160 = is.short in
    let sum_is : 160 ≡ n + (160 - n) = omega arith in
    let start : 0 + n ≡ n = omega arith in
    id_bits-is id ∙ ap (λ (x : ℕ). bits_from x 0 id.0) sum_is ∙ bits_from-append n (160 - n) 0 id.0
    ∙ ap (λ (x : ℕ). bits_from n 0 id.0 ++ bits_from (160 - n) x id.0) start
    ∙ ap (λ (x : List Bool). bits_from n 0 id.0 ++ x) (bits_from-clear (160 - n) n id.0 (λ j from below. is.clear j from (omega arith)))
    ∙ ap (λ (x : List Bool). x ++ replicate (160 - n) false) e ∙ ap (λ (x : ℕ). v ++ replicate (160 - x) false) l

pub child-one : (a b : List ℕ) (n : ℕ) (v : List Bool) → bits_from n 0 a ≡ v → bit b n ≡ true → ((i : ℕ) → i < 160 → i ≢ n → bit b i ≡ bit a i) → n < 160 → bits_from (n + 1) 0 b ≡ v ++ true ∷ []
child-one a b n v e here others lt =
    let same : bits_from n 0 b ≡ bits_from n 0 a = bits_from-same n 0 b a (λ j from below. others j (omega arith) (λ q. absurd (omega arith))) in
    bits_from-more n b ∙ ap (λ (x : List Bool). x ++ bit b n ∷ []) (same ∙ e) ∙ ap (λ (x : Bool). v ++ x ∷ []) here

pub child-zero : (a : List ℕ) (n : ℕ) (v : List Bool) → bits_from n 0 a ≡ v → IsPrefix a n → n < 160 → bits_from (n + 1) 0 a ≡ v ++ false ∷ []
child-zero a n v e is lt = bits_from-more n a ∙ ap (λ (x : List Bool). x ++ bit a n ∷ []) e ∙ ap (λ (x : Bool). v ++ x ∷ []) (is.clear n (omega arith) lt)

pub id_bits-length : (id : Id) → length (id_bits id) ≡ 160
id_bits-length id = ap length (id_bits-is id) ∙ bits_from-length 160 0 id.0
