use Rattle.std.proofs.Common.{◌≡◌, vec_len}
use Rattle.std.specs.Prelude.{map}
use Rattle.fake_net.specs.Network.{id_of, numbers}
use Rattle.fake_net.proofs.nodes.Nodes.new.Given as goal

abbrev pub invariant-loop-i : goal.invariant-loop-i
invariant-loop-i l = record {
  ids : l.ids.items ≡ map (id_of l.seed) (numbers l.i);
  long : vec_len l.ids ≡ l.i;
}
