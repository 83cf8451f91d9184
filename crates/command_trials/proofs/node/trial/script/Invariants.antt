use Rattle.std.specs.Prelude.{All}
use Rattle.fake_net.specs.Scripts.{IsWritableEvent}
use Rattle.command_trials.proofs.node.trial.script.Given as goal

abbrev pub invariant-loop-row : goal.invariant-loop-row
invariant-loop-row l = All IsWritableEvent l.script
