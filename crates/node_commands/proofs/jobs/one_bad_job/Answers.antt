use Rattle.kad_text.specs.Lines.{lines}
use Rattle.node_commands.proofs.JobLaws.{bad_behind_once, named_or_bad}
use Rattle.node_commands.proofs.jobs.one_bad_job.Goals as goal

pub returns-clause-one : goal.returns-clause-one
returns-clause-one c = λ input m n f g. bad_behind_once (lines input) m n f g

pub returns-clause-alone : goal.returns-clause-alone
returns-clause-alone c = λ input m reports jobs f n. named_or_bad (lines input) reports jobs m n f
