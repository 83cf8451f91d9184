use Rattle.std.proofs.Common.{◌≡◌, ◌++◌, take, drop, map, vec_capacity}
use Rattle.bucket_tree.specs.BucketSteps.{mark}
use Rattle.bucket_tree.proofs.entries.mark.Given as goal

abbrev pub invariant-loop-at : goal.invariant-loop-at
invariant-loop-at l = record {
  items : l.entries.items ≡ map (mark l.contact) (take l.at l.initial.entries.items) ++ drop l.at l.initial.entries.items;
  capacity : vec_capacity l.entries ≡ vec_capacity l.initial.entries;
}
