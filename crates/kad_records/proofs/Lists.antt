-- One record more of a string.
use Rattle.std.proofs.Common.{◌≡◌, ℕ, ◌+◌, ◌-◌, take, drop, ap, List, [], ◌∷◌, ◌++◌, map, arith}
use Rattle.std.specs.List.{range_with_len}
use Rattle.kad_records.specs.Records.{part}
use Rattle.std.proofs.lemmas.List.FromFn.{map-range_with_len_more}

pub one_more : {X : Type 0} (f : ℕ → X) (n : ℕ) → map f (range_with_len 0 (n + 1)) ≡ map f (range_with_len 0 n) ++ f n ∷ []
one_more f n = map-range_with_len_more f 0 n n (grind arith)

pub one_part : (at size : ℕ) (bytes : List ℕ) → take (at + size - at) (drop at bytes) ≡ part at size bytes
one_part at size bytes = ap (λ n. take n (drop at bytes)) (grind arith)
