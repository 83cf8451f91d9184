use Rattle.kad_krpc.proofs.Sealing.{untagged}
use Rattle.kad_krpc.proofs.seal.form_is_untagged.Goals as goal

pub returns : goal.returns
returns c = untagged
