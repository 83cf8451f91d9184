use Rattle.std.proofs.Common.{◌≡◌, ◌≤◌, ◌++◌, take, vec_capacity}
use Rattle.kad_distance.specs.KClosest.{k_closest}
use Rattle.bucket_tree.proofs.nearest.put_all.Given as goal

abbrev pub invariant-loop-contact : goal.invariant-loop-contact
invariant-loop-contact l = record {
  items : l.near.items ≡ k_closest l.target l.k (l.initial.near.items ++ take l.contact-index l.others);
  room : l.k ≤ vec_capacity l.near;
}
