use Rattle.std.proofs.Common.{ap, sym, ◌∙◌, w64}
use Rattle.std.proofs.lemmas.Int.{to_z-of_z}
use Rattle.kad_bencode.specs.Spelling.{integer_text}
use Rattle.kad_bencode.specs.declared.value.Value.TheVariants.{Int}
use Rattle.kad_bencode.proofs.Folds.{text_of-int}
use Rattle.kad_bencode.proofs.Putting.{puts_pair, puts_same}
use Rattle.kad_krpc.proofs.fields.put_number.Goals as goal

pub returns : goal.returns
returns c = puts_pair c.args.key.now (Int c.args.number) c.put_string-at.ensures (puts_same (text_of-int c.args.number ∙ ap integer_text (sym (to_z-of_z w64 c.args.number c.ranges.number))) c.put_integer.ensures)
