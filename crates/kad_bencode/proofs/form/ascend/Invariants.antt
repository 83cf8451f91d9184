use Rattle.std.proofs.Common.{List, ◌-◌, length}
use Rattle.kad_bencode.specs.Finding.{ArePairs}
use Rattle.kad_bencode.specs.Forming.{AreSizes}
use Rattle.kad_bencode.specs.declared.entries.Pair.{Pair}
use Rattle.kad_bencode.specs.declared.value.Value.{Value}
use Rattle.kad_bencode.proofs.Ascending.{AscendsSoFar}
use Rattle.kad_bencode.proofs.form.ascend.Given as goal

abbrev pub invariant-loop-i : goal.invariant-loop-i
invariant-loop-i l = (ps : List (Pair Value)) → ArePairs l.pairs ps → AreSizes l.sizes ps → AscendsSoFar l.last l.rest l.i ps

abbrev pub decreases-loop-i : goal.decreases-loop-i
decreases-loop-i l = length l.sizes - l.i
