use Rattle.command_base.proofs.Results.{ok_then}
use Rattle.lookup_commands.proofs.Getting.{printed_at}
use Rattle.lookup_commands.proofs.get.text_of.Goals as goal

pub returns : goal.returns
returns c = ok_then c.print_item.result _ _ c.print_item.ensures (λ text is. printed_at c.args.key.now c.args.outcome.now c.as_slice.result.now _ c.len.result text c.as_slice.ensures c.first_item.ensures is c.len.ensures)
