use Rattle.command_base.proofs.Printing.{pieces_are}
use Rattle.node_commands.proofs.JobTexting.{announce_pieces}
use Rattle.node_commands.proofs.job_text.job_line.Goals as goal

pub returns-in-Announce : goal.returns-in-Announce
returns-in-Announce c = pieces_are c.format-in-Announce.result _ _ c.format-in-Announce.ensures.ok (announce_pieces c.args.job.now c.in-Announce.key c.in-Announce.port _ c.in-Announce.is (rw c.target.ensures at c.in_ok-digits.ensures))
