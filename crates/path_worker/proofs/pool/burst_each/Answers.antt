use denote.Param.Send.{sendable}
use Rattle.path_worker.proofs.Sending.{job_send}
use Rattle.path_worker.proofs.pool.burst_each.Goals as goal

pub for_each_mut-requires-send-T : goal.for_each_mut-requires-send-T
for_each_mut-requires-send-T g c κs within = search (sendable, job_send)
