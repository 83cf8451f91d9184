use Rattle.std.proofs.Common.{◌≡◌, take}
use Rattle.node_serve.specs.Replies.{proved}
use Rattle.node_serve.proofs.nodes.proved_nodes.Given as goal

abbrev pub invariant-loop-report : goal.invariant-loop-report
invariant-loop-report l = l.shown ≡ proved l.fn.proofs (take l.report-index l.reports)
