use Rattle.std.proofs.Common.{◌≡◌, ◌≤◌, vec_capacity}
use Rattle.kad_distance.specs.KClosest.{k_closest}
use Rattle.fake_net.specs.Network.{honest_below}
use Rattle.fake_net.proofs.nodes.Nodes.closest_honest.Given as goal

abbrev pub invariant-loop-i : goal.invariant-loop-i
invariant-loop-i l = record {
  items : l.found.items ≡ k_closest l.target l.k (honest_below l.self l.i);
  room : l.k ≤ vec_capacity l.found;
}
