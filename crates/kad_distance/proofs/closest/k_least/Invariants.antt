use Rattle.std.proofs.Common.{◌≡◌, ◌≤◌, take, vec_capacity}
use Rattle.kad_distance.specs.KClosest.{k_closest}
use Rattle.kad_distance.proofs.closest.k_least.Given as goal

abbrev pub invariant-loop-contact : goal.invariant-loop-contact
invariant-loop-contact l = record {
  items : l.found.items ≡ k_closest l.target l.k (take l.contact-index l.list);
  room : l.k ≤ vec_capacity l.found;
}
