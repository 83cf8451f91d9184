use Rattle.kad_krpc.proofs.Writable.{writable}
use Rattle.kad_krpc.proofs.laws.said_is_writable.Goals as goal

pub returns : goal.returns
returns c bytes m s n = writable bytes m s n
