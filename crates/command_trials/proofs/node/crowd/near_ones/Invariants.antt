use Rattle.std.specs.List.{AllByRecursion}
use Rattle.kad_krpc.specs.Form.{IsNode}
use Rattle.command_trials.proofs.node.crowd.near_ones.Given as goal

abbrev pub invariant-loop-n : goal.invariant-loop-n
invariant-loop-n l = AllByRecursion IsNode l.nodes
