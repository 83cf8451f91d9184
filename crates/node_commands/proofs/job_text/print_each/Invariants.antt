use Rattle.node_commands.proofs.JobTexting.{Follows}
use Rattle.node_commands.proofs.job_text.print_each.Given as goal

abbrev pub invariant-loop-i : goal.invariant-loop-i
invariant-loop-i l = Follows l.jobs l.ones l.i l.output
