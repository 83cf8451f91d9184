use Rattle.kad_base.proofs.Failing.{fails_here}
use Rattle.serve_batches.proofs.slot.Slot.receive.Goals as goal

pub returns-in-Err-clause-last : goal.returns-in-Err-clause-last
returns-in-Err-clause-last g c = fails_here _ _ _ _ c.in-Err.ensures.failed c.in-Err.ensures.err
