use Rattle.command_base.proofs.Printing.{pieces_are}
use Rattle.serve_commands.proofs.Serving.{served_pieces}
use Rattle.serve_commands.proofs.printed.served_line.Goals as goal

pub returns : goal.returns
returns c = pieces_are c.format.result _ _ c.format.ensures.ok (served_pieces c.args.received c.args.replied)
