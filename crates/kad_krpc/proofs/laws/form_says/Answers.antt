use Rattle.kad_bencode.specs.declared.value.Value.TheVariants.{Dict}
use Rattle.kad_krpc.specs.Form.{message_pairs}
use Rattle.kad_krpc.proofs.Spelled.{spelled}
use Rattle.kad_krpc.proofs.ReadBack.{said_back}
use Rattle.kad_krpc.proofs.Writable.{writable_forms}
use Rattle.kad_krpc.proofs.laws.form_says.Goals as goal

pub returns : goal.returns
returns c m w n = record { value = Dict (message_pairs m); spelled = spelled m w (writable_forms m n); says = said_back m w n }
