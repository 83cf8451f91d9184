use Rattle.std.specs.Prelude.{All}
use Rattle.fake_net.specs.Scripts.{IsWritableEvent}
use Rattle.command_trials.proofs.node.drawn.Plan.script.Given as goal

abbrev pub invariant-loop-node : goal.invariant-loop-node
invariant-loop-node l = All IsWritableEvent l.script
