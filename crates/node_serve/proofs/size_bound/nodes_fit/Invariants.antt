use Rattle.std.proofs.Common.{◌*◌, ◌≤◌, take, length}
use Rattle.std.specs.Prelude.{flat_map}
use Rattle.kad_krpc.specs.Records.{node_bytes}
use Rattle.node_serve.proofs.size_bound.nodes_fit.Given as goal

abbrev pub invariant-loop-node : goal.invariant-loop-node
invariant-loop-node l = length (flat_map node_bytes (take l.node-index l.nodes)) ≤ 38 * l.node-index
