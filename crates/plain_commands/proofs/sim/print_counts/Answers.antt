use Rattle.command_base.proofs.Printing.{pieces_are}
use Rattle.plain_commands.proofs.Simulating.{sim_pieces}
use Rattle.plain_commands.proofs.sim.print_counts.Goals as goal

pub returns : goal.returns
returns c = pieces_are c.format.result _ _ c.format.ensures.ok (sim_pieces c.args.found c.args.asked c.args.failed c.args.turned c.args.honest)
