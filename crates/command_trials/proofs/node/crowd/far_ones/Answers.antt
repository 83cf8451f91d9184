use Rattle.command_trials.proofs.Nodes.{nodes_more}
use Rattle.command_trials.proofs.node.crowd.far_ones.Goals as goal

pub loop-i-preserved : goal.loop-i-preserved
loop-i-preserved c = nodes_more c.loop-i.nodes _ _ c.in_ok-push.ensures.ok c.loop-i.invariant c.far.ensures
