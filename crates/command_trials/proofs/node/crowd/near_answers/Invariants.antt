use Rattle.std.specs.Prelude.{All}
use Rattle.fake_net.specs.Scripts.{IsWritableEvent}
use Rattle.command_trials.proofs.node.crowd.near_answers.Given as goal

abbrev pub invariant-loop-n : goal.invariant-loop-n
invariant-loop-n l = All IsWritableEvent l.script
