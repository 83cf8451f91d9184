use Rattle.kad_krpc.proofs.Decoding.{owned_only, fault_only}
use Rattle.kad_krpc.proofs.reader.decode.Goals as goal

pub returns-in-Ok-message_of-clause-only : goal.returns-in-Ok-message_of-clause-only
returns-in-Ok-message_of-clause-only c m s = owned_only c.in-Ok.view m c.in-Ok-message_of.message c.in-Ok-message_of.ensures (c.in-Ok.ensures.only m s)

pub returns-in-Err-clause-only : goal.returns-in-Err-clause-only
returns-in-Err-clause-only c m s = fault_only c.in-Err.fault m (c.in-Err.ensures.only m s)
