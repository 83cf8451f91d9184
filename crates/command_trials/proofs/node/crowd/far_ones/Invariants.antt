use Rattle.std.specs.List.{AllByRecursion}
use Rattle.kad_krpc.specs.Form.{IsNode}
use Rattle.command_trials.proofs.node.crowd.far_ones.Given as goal

abbrev pub invariant-loop-i : goal.invariant-loop-i
invariant-loop-i l = AllByRecursion IsNode l.nodes
