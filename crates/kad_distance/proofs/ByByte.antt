-- Distances that are compared byte by byte.
use Rattle.std.proofs.Common.{◌≡◌, ℕ, ◌+◌, ◌<◌, List, ◌∷◌, length, get_or, drop, sym, ap, ◌∙◌, arith, add-one, drop-cons}
use Rattle.std.specs.Prelude.{bit_xor}
use Rattle.std.specs.Ordering.{nat_cmp}
use Rattle.std.specs.Cmp.Lexicographic.{slice_cmp}
use Rattle.std.specs.declared.cmp.Ordering.TheVariants.{Less, Greater}
use Rattle.kad_base.specs.Bits.{xor_bytes}

cmp_same : (x y : ℕ) (xs ys : List ℕ) → x ≡ y → slice_cmp nat_cmp (x ∷ xs) (y ∷ ys) ≡ slice_cmp nat_cmp xs ys
cmp_same x y xs ys e = grind (arith, e)

cmp_less : (x y : ℕ) (xs ys : List ℕ) → x < y → slice_cmp nat_cmp (x ∷ xs) (y ∷ ys) ≡ Less
cmp_less x y xs ys lt = grind (arith, lt)

cmp_more : (x y : ℕ) (xs ys : List ℕ) → y < x → slice_cmp nat_cmp (x ∷ xs) (y ∷ ys) ≡ Greater
cmp_more x y xs ys lt = grind (arith, lt)

split_at : (t a : List ℕ) (i : ℕ) → i < length t → i < length a
    → xor_bytes (drop i t) (drop i a) ≡ bit_xor (get_or t i 0) (get_or a i 0) ∷ xor_bytes (drop (i + 1) t) (drop (i + 1) a)
split_at t a i lt la =
    let e : drop i t ≡ get_or t i 0 ∷ drop (i + 1) t = drop-cons t i 0 lt ∙ ap (λ (n : ℕ). get_or t i 0 ∷ drop n t) (sym (add-one i)) in
    let f : drop i a ≡ get_or a i 0 ∷ drop (i + 1) a = drop-cons a i 0 la ∙ ap (λ (n : ℕ). get_or a i 0 ∷ drop n a) (sym (add-one i)) in
    ap (λ (l : List ℕ). xor_bytes l (drop i a)) e ∙ ap (λ (l : List ℕ). xor_bytes (get_or t i 0 ∷ drop (i + 1) t) l) f

-- both distances from byte i on, as their byte i and what follows
both_at : (t a b : List ℕ) (i : ℕ) → i < length t → i < length a → i < length b
    → slice_cmp nat_cmp (xor_bytes (drop i t) (drop i a)) (xor_bytes (drop i t) (drop i b))
    ≡ slice_cmp nat_cmp (bit_xor (get_or t i 0) (get_or a i 0) ∷ xor_bytes (drop (i + 1) t) (drop (i + 1) a)) (bit_xor (get_or t i 0) (get_or b i 0) ∷ xor_bytes (drop (i + 1) t) (drop (i + 1) b))
both_at t a b i lt la lb =
    ap (λ (l : List ℕ). slice_cmp nat_cmp l (xor_bytes (drop i t) (drop i b))) (split_at t a i lt la)
    ∙ ap (λ (l : List ℕ). slice_cmp nat_cmp (bit_xor (get_or t i 0) (get_or a i 0) ∷ xor_bytes (drop (i + 1) t) (drop (i + 1) a)) l) (split_at t b i lt lb)

pub same_byte : (t a b : List ℕ) (i : ℕ) → i < length t → i < length a → i < length b
    → bit_xor (get_or t i 0) (get_or a i 0) ≡ bit_xor (get_or t i 0) (get_or b i 0)
    → slice_cmp nat_cmp (xor_bytes (drop i t) (drop i a)) (xor_bytes (drop i t) (drop i b))
    ≡ slice_cmp nat_cmp (xor_bytes (drop (i + 1) t) (drop (i + 1) a)) (xor_bytes (drop (i + 1) t) (drop (i + 1) b))
same_byte t a b i lt la lb e =
    both_at t a b i lt la lb
    ∙ cmp_same (bit_xor (get_or t i 0) (get_or a i 0)) (bit_xor (get_or t i 0) (get_or b i 0)) (xor_bytes (drop (i + 1) t) (drop (i + 1) a)) (xor_bytes (drop (i + 1) t) (drop (i + 1) b)) e

pub less_byte : (t a b : List ℕ) (i : ℕ) → i < length t → i < length a → i < length b
    → bit_xor (get_or t i 0) (get_or a i 0) < bit_xor (get_or t i 0) (get_or b i 0)
    → slice_cmp nat_cmp (xor_bytes (drop i t) (drop i a)) (xor_bytes (drop i t) (drop i b)) ≡ Less
less_byte t a b i lt la lb less =
    both_at t a b i lt la lb
    ∙ cmp_less (bit_xor (get_or t i 0) (get_or a i 0)) (bit_xor (get_or t i 0) (get_or b i 0)) (xor_bytes (drop (i + 1) t) (drop (i + 1) a)) (xor_bytes (drop (i + 1) t) (drop (i + 1) b)) less

pub more_byte : (t a b : List ℕ) (i : ℕ) → i < length t → i < length a → i < length b
    → bit_xor (get_or t i 0) (get_or b i 0) < bit_xor (get_or t i 0) (get_or a i 0)
    → slice_cmp nat_cmp (xor_bytes (drop i t) (drop i a)) (xor_bytes (drop i t) (drop i b)) ≡ Greater
more_byte t a b i lt la lb more =
    both_at t a b i lt la lb
    ∙ cmp_more (bit_xor (get_or t i 0) (get_or a i 0)) (bit_xor (get_or t i 0) (get_or b i 0)) (xor_bytes (drop (i + 1) t) (drop (i + 1) a)) (xor_bytes (drop (i + 1) t) (drop (i + 1) b)) more
