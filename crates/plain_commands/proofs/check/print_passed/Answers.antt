use Rattle.command_base.proofs.Printing.{pieces_are}
use Rattle.plain_commands.proofs.Verdicts.{passed_pieces}
use Rattle.plain_commands.proofs.check.print_passed.Goals as goal

pub returns : goal.returns
returns c = pieces_are c.format.result _ _ c.format.ensures.ok (passed_pieces c.args.passed c.args.all)
