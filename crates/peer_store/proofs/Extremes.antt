-- The first and the last of the lists of bytes of one length, and of addresses.
use Rattle.std.proofs.Common.{◌≡◌, ℕ, zero, suc, ◌<◌, ◌≤◌, nat_lt, ◌==◌, Bool, true, false, cond, List, [], ◌∷◌, length, get_or, refl, arith}
use Rattle.std.proofs.lemmas.Bool.{le-ltb}
use Rattle.std.specs.Prelude.{replicate}
use Rattle.std.specs.Ordering.{ordering_then, is_lt, nat_cmp}
use Rattle.std.specs.Cmp.Lexicographic.{slice_cmp}
use Rattle.std.specs.declared.cmp.Ordering.{Ordering}
use Rattle.std.specs.declared.cmp.Ordering.TheVariants.{Less, Equal, Greater}

not_lt : (a b : Ordering) → is_lt a ≡ false → is_lt b ≡ false → is_lt (ordering_then a b) ≡ false
not_lt Less b f g = f
not_lt Equal b f g = g
not_lt Greater b f g = refl

greatest_last : (n m : ℕ) → n ≤ m → is_lt (nat_cmp m n) ≡ false
greatest_last n m le = by (nat_lt m n) (m == n) (le-ltb m n le)
  where
    by : (b d : Bool) → b ≡ false → is_lt (cond b Less (cond d Equal Greater)) ≡ false
    by true d e = absurd cc
    by false true e = refl
    by false false e = refl

pub greatest_bytes_last : (n : ℕ) (bytes : List ℕ) → length bytes ≤ n → ((i : ℕ) → get_or bytes i 0 < 256) → is_lt (slice_cmp nat_cmp (replicate n 255) bytes) ≡ false
greatest_bytes_last zero [] le small = refl
greatest_bytes_last zero (b ∷ bytes) le small = absurd (omega arith)
greatest_bytes_last (suc n) [] le small = refl
greatest_bytes_last (suc n) (b ∷ bytes) le small =
    not_lt (nat_cmp 255 b) (slice_cmp nat_cmp (replicate n 255) bytes) (greatest_last b 255 (let s : b < 256 = small 0 in omega arith))
    (greatest_bytes_last n bytes (omega arith) (λ i. small (suc i)))
