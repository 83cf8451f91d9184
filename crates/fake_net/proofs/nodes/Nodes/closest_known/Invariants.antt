use Rattle.std.proofs.Common.{◌≡◌, ◌≤◌, vec_capacity}
use Rattle.kad_distance.specs.KClosest.{k_closest}
use Rattle.fake_net.specs.Network.{known_below}
use Rattle.fake_net.specs.Counting.{CountsBelow}
use Rattle.fake_net.proofs.nodes.Nodes.closest_known.Given as goal

abbrev pub invariant-loop-j : goal.invariant-loop-j
invariant-loop-j l = record {
  items : l.found.items ≡ k_closest l.target 8 (known_below l.self.seed l.i l.j);
  room : 8 ≤ vec_capacity l.found;
  counts : CountsBelow l.self.seed l.i l.j l.counts;
}
