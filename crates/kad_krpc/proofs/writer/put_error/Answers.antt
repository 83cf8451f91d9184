use Rattle.std.proofs.Common.{◌∷◌, ◌++◌, refl, sym, ap, w64}
use Rattle.kad_bencode.proofs.Putting.{puts_then, puts_same}
use Rattle.kad_krpc.proofs.Put.{error_text}
use Rattle.std.proofs.lemmas.Int.{to_z-of_z}
use Rattle.kad_bencode.specs.Spelling.{integer_text, string_text}
use Rattle.kad_krpc.proofs.writer.put_error.Goals as goal

pub returns : goal.returns
returns c =
    let number = puts_same {other = integer_text c.args.code} (ap integer_text (sym (to_z-of_z w64 c.args.code c.ranges.code))) c.put_integer-at.ensures in
    let begun = puts_then {all = 108 ∷ integer_text c.args.code} refl c.put_part-at.ensures number in
    let said = puts_then {all = (108 ∷ integer_text c.args.code) ++ string_text c.args.said.now} refl begun c.put_string-at.ensures in
    puts_then (error_text c.args.code c.args.said.now) said c.put_part.ensures
