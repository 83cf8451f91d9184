use Rattle.std.proofs.Common.{◌*◌, ◌≤◌, take, length}
use Rattle.std.specs.Prelude.{flat_map}
use Rattle.kad_krpc.specs.Records.{proved_bytes}
use Rattle.node_serve.proofs.size_bound.snodes_fit.Given as goal

abbrev pub invariant-loop-report : goal.invariant-loop-report
invariant-loop-report l = length (flat_map proved_bytes (take l.report-index l.snodes)) ≤ 90 * l.report-index
