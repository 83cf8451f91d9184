-- The octets of segments, two by two, are these segments.
use Rattle.std.proofs.Common.{◌≡◌, ℕ, ◌+◌, ◌*◌, ◌/◌, ◌%◌, List, [], ◌∷◌, refl, sym, arith}
use Rattle.std.specs.Net.Addr.{segments_of, octets_of}

paired : (segments : List ℕ) → segments_of (octets_of segments) ≡ segments
paired [] = refl
paired (s ∷ segments) =
    let whole : s / 256 * 256 + s % 256 ≡ s = omega arith in
    λ i. whole i ∷ paired segments i

pub segments_of_octets_of : (segments : List ℕ) → segments ≡ segments_of (octets_of segments)
segments_of_octets_of segments = sym (paired segments)
