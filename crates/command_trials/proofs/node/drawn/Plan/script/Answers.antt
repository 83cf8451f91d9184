use Rattle.std.proofs.lemmas.List.Elements.{All-push, All-same}
use Rattle.fake_net.specs.Scripts.{IsWritableEvent}
use Rattle.command_trials.proofs.node.drawn.Plan.script.Goals as goal

pub loop-node-preserved : goal.loop-node-preserved
loop-node-preserved c = All-same IsWritableEvent _ _ c.in_ok-push.ensures.ok (All-push IsWritableEvent _ _ c.loop-node.invariant c.in_ok-event.ensures)
