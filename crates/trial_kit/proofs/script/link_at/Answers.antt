use Rattle.std.proofs.lemmas.List.Elements.{All-push, All-same}
use Rattle.fake_net.specs.Scripts.{IsWritableEvent}
use Rattle.trial_kit.proofs.script.link_at.Goals as goal

pub loop-at-preserved : goal.loop-at-preserved
loop-at-preserved c = All-same IsWritableEvent _ _ c.in_ok-push.ensures.ok (All-push IsWritableEvent _ _ c.loop-at.invariant c.in_ok-event.ensures)
