use Rattle.std.proofs.Common.{arith}
use Rattle.kad_records.proofs.Sized.{puts_sized}
use Rattle.kad_records.proofs.into.put_records.Goals as goal

pub returns : goal.returns
returns g c = puts_sized (omega arith) c.measured.ensures c.put_length-at.ensures c.put_each.ensures
