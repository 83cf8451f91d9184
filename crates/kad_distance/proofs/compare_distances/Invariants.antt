use Rattle.std.proofs.Common.{◌≡◌, drop}
use Rattle.std.specs.Ordering.{nat_cmp}
use Rattle.std.specs.Cmp.Lexicographic.{slice_cmp}
use Rattle.kad_base.specs.Bits.{xor_bytes}
use Rattle.kad_distance.proofs.compare_distances.Given as goal

abbrev pub invariant-loop-at : goal.invariant-loop-at
invariant-loop-at l =
    slice_cmp nat_cmp (xor_bytes l.target.0 l.a.0) (xor_bytes l.target.0 l.b.0)
    ≡ slice_cmp nat_cmp (xor_bytes (drop l.at l.target.0) (drop l.at l.a.0)) (xor_bytes (drop l.at l.target.0) (drop l.at l.b.0))
