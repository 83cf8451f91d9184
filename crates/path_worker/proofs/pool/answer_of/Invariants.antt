use Rattle.std.proofs.Common.{take, All}
use Rattle.std.specs.Prelude.{IsOk}
use Rattle.path_worker.proofs.pool.answer_of.Given as goal

abbrev pub invariant-loop-job : goal.invariant-loop-job
invariant-loop-job l = All (λ s. IsOk s.answer) (take l.job-index l.pool)
