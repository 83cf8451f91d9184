use denote.Param.Send.{sendable}
use Rattle.serve_batches.proofs.Crossing.{place_send, turns_sync}
use Rattle.serve_batches.proofs.staying.serve_together.Goals as goal

pub join_mut-answer-requires-send-F : goal.join_mut-answer-requires-send-F
join_mut-answer-requires-send-F g c κs within = search (sendable, place_send, turns_sync) depth 16
