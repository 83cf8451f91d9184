use Rattle.kad_bencode.specs.declared.value.Value.TheVariants.{Text}
use Rattle.kad_bencode.proofs.Folds.{text_of-text}
use Rattle.kad_bencode.proofs.Putting.{puts_pair, puts_same}
use Rattle.kad_krpc.proofs.fields.put_text.Goals as goal

pub returns : goal.returns
returns c = puts_pair c.args.key.now (Text c.args.text.now) c.put_string-at.ensures (puts_same (text_of-text c.args.text.now) c.put_string.ensures)
