use Rattle.std.proofs.Common.{◌<◌, ◌^◌, ◌∷◌, [], ◌++◌, ap, sym, ◌∙◌, arith}
use Rattle.kad_bencode.proofs.Writing.{one_digit}
use Rattle.kad_bencode.proofs.Putting.{puts_then, puts_same, length_written}
use Rattle.kad_bencode.proofs.into.put_length.Goals as goal

pub returns-then-length-lt10 : goal.returns-then-length-lt10
returns-then-length-lt10 c = puts_same (ap (λ l. l ++ 58 ∷ []) (sym (one_digit c.args.length c.if-length-lt10.true))) c.put_part.ensures

pub returns : goal.returns
returns c =
    let small : c.args.length < 2 ^ 64 = omega (arith, c.ranges.length.fits) in
    puts_then (length_written c.args.length c.as_bytes.result.now small (c.as_bytes.ensures.value ∙ c.format.ensures.text)) c.put_part-at.ensures c.put_part-2.ensures
