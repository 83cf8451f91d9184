use Rattle.kad_bencode.specs.Naming.{named}
use Rattle.kad_bencode.proofs.Formed.{named_text}
use Rattle.kad_bencode.proofs.Putting.{puts_pair, puts_same}
use Rattle.kad_krpc.proofs.fields.put_form.Goals as goal

pub returns : goal.returns
returns c = puts_pair c.args.key.now (named c.args.form.now) c.put_string-at.ensures (puts_same (named_text 2 c.args.form.now c.requires) c.put_part.ensures)
