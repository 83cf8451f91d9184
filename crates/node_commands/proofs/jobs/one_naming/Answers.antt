use Rattle.kad_text.specs.Lines.{lines}
use Rattle.node_commands.proofs.JobLaws.{reports_once, jobs_once}
use Rattle.node_commands.proofs.jobs.one_naming.Goals as goal

pub returns-clause-reports : goal.returns-clause-reports
returns-clause-reports c = λ input a b x y s t. reports_once (lines input) a b x y s t

pub returns-clause-jobs : goal.returns-clause-jobs
returns-clause-jobs c = λ input a b x y s t. jobs_once (lines input) a b x y s t
