use Rattle.std.proofs.Common.{◌∷◌, ◌∙◌, refl}
use Rattle.kad_bencode.proofs.Writing.{integer_written}
use Rattle.kad_bencode.proofs.Putting.{puts_then}
use Rattle.kad_bencode.proofs.into.put_integer.Goals as goal

pub returns : goal.returns
returns c =
    let front = puts_then {all = 105 ∷ c.as_bytes.result.now} refl c.put_part-at.ensures c.put_part-at-2.ensures in
    puts_then (integer_written c.args.number c.as_bytes.result.now c.ranges.number (c.as_bytes.ensures.value ∙ c.format.ensures.text)) front c.put_part.ensures
