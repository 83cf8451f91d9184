use Rattle.kad_krpc.proofs.Sealing.{has_tag, no_member, no_string}
use Rattle.kad_krpc.proofs.seal.tag_of.Goals as goal

pub returns-in-Some-as_bytes : goal.returns-in-Some-as_bytes
returns-in-Some-as_bytes c = has_tag c.args.top.now c.in-Some.value c.in-Some-as_bytes.tag.now c.in-Some.ensures c.in-Some-as_bytes.ensures

pub returns-in-None-as_bytes : goal.returns-in-None-as_bytes
returns-in-None-as_bytes c = no_string c.args.top.now c.in-Some.value c.in-Some.ensures c.in-None-as_bytes.ensures

pub returns-in-None : goal.returns-in-None
returns-in-None c = no_member c.args.top.now c.in-None.ensures
