use Rattle.std.proofs.Common.{◌≡◌, ◌≤◌, ◌++◌, take, map, vec_capacity}
use Rattle.bucket_tree.specs.Rows.{contact_of}
use Rattle.kad_distance.specs.KClosest.{k_closest}
use Rattle.bucket_tree.proofs.nearest.put_row.Given as goal

abbrev pub invariant-loop-entry : goal.invariant-loop-entry
invariant-loop-entry l = record {
  items : l.near.items ≡ k_closest l.target l.k (l.initial.near.items ++ map contact_of (take l.entry-index l.entry-items));
  room : l.k ≤ vec_capacity l.near;
}
