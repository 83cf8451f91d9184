use Rattle.command_base.proofs.Printing.{pieces_are, counts_pieces}
use Rattle.command_base.proofs.printed.print_counts.Goals as goal

pub returns : goal.returns
returns c = pieces_are c.format.result _ _ c.format.ensures.ok (counts_pieces c.args.found c.args.asked c.args.failed c.args.turned)
