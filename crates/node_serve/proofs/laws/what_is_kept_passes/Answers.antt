use Rattle.node_serve.proofs.Passing.{answer_passes, run_passes}
use Rattle.node_serve.proofs.laws.what_is_kept_passes.Goals as goal

pub returns : goal.returns
returns c = record { answer = answer_passes; run = run_passes }
