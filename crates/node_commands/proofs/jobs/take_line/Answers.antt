use Rattle.node_commands.proofs.JobLaws.{one_too_many}
use Rattle.node_commands.proofs.jobs.take_line.Goals as goal

pub returns-in-Ok-Wanted-clause-bad : goal.returns-in-Ok-Wanted-clause-bad
returns-in-Ok-Wanted-clause-bad c = λ e. one_too_many c.args.jobs.now c.args.line.now c.in-Ok-Wanted.job (rw c.in-Ok-Wanted.field-0-is at c.in-Ok-Wanted.ensures.ok) (c.take_job.ensures.bad e)
