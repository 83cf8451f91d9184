use Rattle.std.proofs.Common.{◌≤◌, List, length}
use Rattle.kad_bencode.specs.declared.entries.Pair.{Pair}
use Rattle.kad_bencode.specs.declared.value.Value.{Value}
use Rattle.kad_bencode.specs.Finding.{ArePairs}
use Rattle.kad_bencode.proofs.Parting.{PartedSoFar}
use Rattle.kad_bencode.proofs.place.length_behind.Given as goal

-- the pairs that were passed over are below the key
abbrev pub invariant-loop-rest : goal.invariant-loop-rest
invariant-loop-rest l = record {
  within : length l.rest ≤ length l.fn.pairs;
  so_far : (ps : List (Pair Value)) → ArePairs l.fn.pairs ps → PartedSoFar l.key l.rest ps;
}

abbrev pub decreases-loop-rest : goal.decreases-loop-rest
decreases-loop-rest l = length l.rest
