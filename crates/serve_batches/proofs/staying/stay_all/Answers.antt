use denote.Param.Send.{sendable}
use Rattle.serve_batches.proofs.Crossing.{place_send, turns_sync}
use Rattle.serve_batches.proofs.staying.stay_all.Goals as goal

pub for_each_mut-requires-send-T : goal.for_each_mut-requires-send-T
for_each_mut-requires-send-T g c κs within = search (sendable, place_send) depth 9

pub for_each_mut-requires-sync-F : goal.for_each_mut-requires-sync-F
for_each_mut-requires-sync-F g c κs within = search (sendable, turns_sync) depth 14
