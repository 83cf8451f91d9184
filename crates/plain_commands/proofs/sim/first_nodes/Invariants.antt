use Rattle.std.proofs.Common.{◌≡◌}
use Rattle.std.specs.Prelude.{map}
use Rattle.fake_net.specs.Network.{numbers}
use Rattle.plain_commands.specs.Simulated.{report_of}
use Rattle.plain_commands.proofs.sim.first_nodes.Given as goal

abbrev pub invariant-loop-i : goal.invariant-loop-i
invariant-loop-i l = l.reports ≡ map (report_of l.net.network.seed) (numbers l.i)
