use Rattle.kad_krpc.proofs.ReadBack.{one_said}
use Rattle.kad_krpc.proofs.laws.one_message.Goals as goal

pub returns : goal.returns
returns c bytes m n s t = one_said bytes m n s t
