use Rattle.std.specs.Prelude.{All}
use Rattle.fake_net.specs.Scripts.{IsWritableEvent}
use Rattle.trial_kit.proofs.script.link_at.Given as goal

abbrev pub invariant-loop-at : goal.invariant-loop-at
invariant-loop-at l = All IsWritableEvent l.script
