use Rattle.std.specs.List.{AllByRecursion}
use Rattle.kad_krpc.specs.Form.{IsNode}
use Rattle.command_trials.proofs.node.drawn.Plan.nodes_of.Given as goal

abbrev pub invariant-loop-at : goal.invariant-loop-at
invariant-loop-at l = AllByRecursion IsNode l.nodes
