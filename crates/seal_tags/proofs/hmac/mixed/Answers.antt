use Rattle.std.proofs.Common.{◌<◌, length, get_or, sym, ◌∙◌, arith}
use Rattle.std.specs.Int.Bits.{bit_xor}
use Rattle.std.proofs.lemmas.List.{length-set}
use Rattle.std.proofs.lemmas.List.Edits.{map_over_more}
use Rattle.std.proofs.lemmas.Grind.{get_or_default_zero}
use Rattle.seal_tags.proofs.hmac.mixed.Goals as goal

pub loop-i-preserved : goal.loop-i-preserved
loop-i-preserved c =
    let bytes = c.loop-i.bytes in
    let i = c.loop-i.i in
    let x = get_or bytes i 0 in
    let within : i < length bytes = omega (arith, c.loop-i.invariant.long, c.loop-i-test.true) in
    let in_block : i < length c.args.block.now = omega (arith, c.told-block, c.loop-i-test.true) in
    record {
      long = length-set _ _ _ ∙ c.loop-i.invariant.long;
      each = map_over_more (λ b. bit_xor b c.args.pad) c.args.block.now bytes i x in_block c.loop-i.invariant.each (sym (get_or_default_zero bytes i x within));
    }
