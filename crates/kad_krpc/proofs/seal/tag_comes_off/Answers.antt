use Rattle.kad_krpc.proofs.Sealing.{taken_off}
use Rattle.kad_krpc.proofs.seal.tag_comes_off.Goals as goal

pub returns : goal.returns
returns c = taken_off
