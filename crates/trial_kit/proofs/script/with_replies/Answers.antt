use Rattle.std.proofs.lemmas.List.Elements.{All-push, All-same}
use Rattle.fake_net.specs.Scripts.{IsWritableEvent}
use Rattle.trial_kit.proofs.script.with_replies.Goals as goal

pub loop-reply-preserved : goal.loop-reply-preserved
loop-reply-preserved c = All-same IsWritableEvent _ _ c.in_ok-push.ensures.ok (All-push IsWritableEvent _ _ c.loop-reply.invariant c.in_ok-event.ensures)
