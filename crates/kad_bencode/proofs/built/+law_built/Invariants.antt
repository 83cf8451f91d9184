use Rattle.std.proofs.Common.{drop}
use Rattle.std.specs.List.{AllByRecursion}
use Rattle.kad_bencode.specs.Built.{IsWellBuilt}
use Rattle.kad_bencode.specs.Spelling.{depth_of}
use Rattle.kad_bencode.proofs.Kept.{PairsBuilt}
use Rattle.kad_bencode.proofs.built.+law_built.Given as goal

abbrev pub decreases-law_built : goal.decreases-law_built
decreases-law_built l = depth_of l.value.now

abbrev pub invariant-values : goal.invariant-values
invariant-values l = AllByRecursion IsWellBuilt (drop l.item-index l.item-items) → AllByRecursion IsWellBuilt l.item-items

abbrev pub invariant-pairs : goal.invariant-pairs
invariant-pairs l = PairsBuilt (drop l.pair-index l.pair-items) → PairsBuilt l.pair-items
