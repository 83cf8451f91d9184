use denote.Param.Send.{sendable}
use Rattle.lookup_crowd.proofs.Sending.{seeker_send}
use Rattle.lookup_crowd.proofs.settle.settle_at_once.Goals as goal

pub for_each_mut-requires-send-T : goal.for_each_mut-requires-send-T
for_each_mut-requires-send-T g c κs within = search (sendable, seeker_send)
