use Rattle.std.proofs.Common.{◌≡◌, List, length}
use Rattle.kad_bencode.specs.Keys.{value_of}
use Rattle.kad_bencode.specs.declared.entries.Pair.{Pair}
use Rattle.kad_bencode.specs.declared.value.Value.{Value}
use Rattle.kad_bencode.specs.Finding.{ArePairs}
use Rattle.kad_bencode.proofs.find.find.Given as goal

-- the pairs that are left, among which the key has the same value
abbrev pub invariant-loop-rest : goal.invariant-loop-rest
invariant-loop-rest l = (ps : List (Pair Value)) → ArePairs l.fn.pairs ps → (qs : List (Pair Value)) × ArePairs l.rest qs × (value_of qs l.key ≡ value_of ps l.key)

abbrev pub decreases-loop-rest : goal.decreases-loop-rest
decreases-loop-rest l = length l.rest
