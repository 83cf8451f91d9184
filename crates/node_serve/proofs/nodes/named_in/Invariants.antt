use Rattle.std.proofs.Common.{◌≡◌, map, take}
use Rattle.kad_base.specs.declared.types.Report.{Report}
use Rattle.node_serve.proofs.nodes.named_in.Given as goal

abbrev pub invariant-loop-report : goal.invariant-loop-report
invariant-loop-report l = l.contacts ≡ map (λ (r : Report). r.contact) (take l.report-index l.reports)
