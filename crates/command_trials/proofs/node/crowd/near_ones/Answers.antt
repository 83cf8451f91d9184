use Rattle.command_trials.proofs.Nodes.{nodes_more}
use Rattle.command_trials.proofs.node.crowd.near_ones.Goals as goal

pub loop-n-preserved : goal.loop-n-preserved
loop-n-preserved c = nodes_more c.loop-n.nodes _ _ c.in_ok-push.ensures.ok c.loop-n.invariant c.contact.ensures
