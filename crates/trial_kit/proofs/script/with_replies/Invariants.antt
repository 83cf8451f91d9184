use Rattle.std.specs.Prelude.{All}
use Rattle.fake_net.specs.Scripts.{IsWritableEvent}
use Rattle.trial_kit.proofs.script.with_replies.Given as goal

abbrev pub invariant-loop-reply : goal.invariant-loop-reply
invariant-loop-reply l = All IsWritableEvent l.script
