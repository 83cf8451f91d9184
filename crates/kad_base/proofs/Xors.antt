-- XOR of bytes, place by place.
use Rattle.std.proofs.Common.{◌≡◌, ℕ, zero, suc, ◌<◌, List, [], ◌∷◌, length, get_or, refl, sym, ap, ◌∙◌, arith}
use Rattle.std.specs.Int.Bits.{bit_xor}
use Rattle.std.proofs.lemmas.List.{ext_get_or}
use Rattle.kad_base.specs.Bits.{xor_bytes}

length-xor_bytes : (a b : List ℕ) → length a ≡ length b → length (xor_bytes a b) ≡ length a
length-xor_bytes [] [] e = refl
length-xor_bytes (x ∷ a) [] e = absurd (omega arith)
length-xor_bytes [] (y ∷ b) e = absurd (omega arith)
length-xor_bytes (x ∷ a) (y ∷ b) e = ap suc (length-xor_bytes a b (omega arith))

get_or-xor_bytes : (a b : List ℕ) (i : ℕ) → length a ≡ length b → get_or (xor_bytes a b) i 0 ≡ bit_xor (get_or a i 0) (get_or b i 0)
get_or-xor_bytes [] [] i e = refl
get_or-xor_bytes (x ∷ a) [] i e = absurd (omega arith)
get_or-xor_bytes [] (y ∷ b) i e = absurd (omega arith)
get_or-xor_bytes (x ∷ a) (y ∷ b) zero e = refl
get_or-xor_bytes (x ∷ a) (y ∷ b) (suc i) e = get_or-xor_bytes a b i (omega arith)

-- a list that has the XOR at each place
pub xor_whole : (m a b : List ℕ) (n : ℕ) → length m ≡ n → length a ≡ n → length b ≡ n
    → ((i : ℕ) → i < n → get_or m i 0 ≡ bit_xor (get_or a i 0) (get_or b i 0)) → m ≡ xor_bytes a b
xor_whole m a b n lm la lb each =
    let e : length a ≡ length b = la ∙ sym lb in
    ext_get_or 0 m (xor_bytes a b) (lm ∙ sym (length-xor_bytes a b e ∙ la))
    (λ i lt. each i (omega arith) ∙ sym (get_or-xor_bytes a b i e))
