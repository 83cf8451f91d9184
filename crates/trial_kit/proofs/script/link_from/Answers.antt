use Rattle.std.proofs.lemmas.List.Elements.{All-push, All-same}
use Rattle.fake_net.specs.Scripts.{IsWritableEvent}
use Rattle.trial_kit.proofs.script.link_from.Goals as goal

pub loop-port-preserved : goal.loop-port-preserved
loop-port-preserved c = All-same IsWritableEvent _ _ c.in_ok-push.ensures.ok (All-push IsWritableEvent _ _ c.loop-port.invariant c.in_ok-event.ensures)
