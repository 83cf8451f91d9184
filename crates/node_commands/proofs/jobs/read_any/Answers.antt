use Rattle.node_commands.proofs.JobLaws.{unsaid}
use Rattle.node_commands.proofs.jobs.read_any.Goals as goal

pub returns-in-Err-read_line-clause-bad : goal.returns-in-Err-read_line-clause-bad
returns-in-Err-read_line-clause-bad c = λ e. unsaid c.args.line.now c.without_return.result.now c.without_return.ensures (rw c.in-Ok-None.field-0-is at c.in-Ok-None.ensures) c.in-Err-read_line.ensures
