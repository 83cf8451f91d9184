use Rattle.command_trials.proofs.Nodes.{nodes_more}
use Rattle.command_trials.proofs.node.drawn.Plan.nodes_of.Goals as goal

pub loop-at-preserved : goal.loop-at-preserved
loop-at-preserved c = nodes_more c.loop-at.nodes _ _ c.in_ok-push.ensures.ok c.loop-at.invariant c.contact.ensures
