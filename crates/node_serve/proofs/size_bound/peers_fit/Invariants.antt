use Rattle.std.proofs.Common.{◌*◌, ◌≤◌, take, length}
use Rattle.std.specs.Prelude.{flat_map}
use Rattle.kad_krpc.specs.Records.{addr_bytes}
use Rattle.node_serve.proofs.size_bound.peers_fit.Given as goal

abbrev pub invariant-loop-peer : goal.invariant-loop-peer
invariant-loop-peer l = length (flat_map addr_bytes (take l.peer-index l.peers)) ≤ 18 * l.peer-index
