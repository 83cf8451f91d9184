use Rattle.std.proofs.Common.{◌<◌, ◌≤◌, ◌∷◌, arith, ap, sym, refl}
use Rattle.kad_bencode.specs.Spelling.{depth_of, string_text}
use Rattle.kad_bencode.proofs.Writing.{item_depth, pair_depth, texts_more, pairs_text_more, list_text, dictionary_text}
use Rattle.kad_bencode.proofs.Putting.{puts_then, puts_same}
use Rattle.kad_bencode.proofs.writer.+put_value.Goals as goal

pub put_value-at-requires : goal.put_value-at-requires
put_value-at-requires t c =
    let d : depth_of c.item-item.result < depth_of c.args.value.now = item_depth c.args.value.now c.in-List.values c.as_slice-item-items.result.now c.values.item-index c.item-item.result c.in-List.is c.as_slice-item-items.ensures c.values-test.true c.item-item.is in
    let k : depth_of c.args.value.now ≤ 16 = c.requires in
    (omega (arith, c.decreases, d), omega (arith, d, k))

pub values-preserved : goal.values-preserved
values-preserved t c =
    puts_then (ap (λ l. 108 ∷ l) (texts_more c.as_slice-item-items.result.now c.values.item-index c.item-item.result c.values-test.true c.item-item.is)) c.values.invariant c.put_value-at.ensures

pub returns-after-values : goal.returns-after-values
returns-after-values t c =
    puts_then (list_text c.args.value.now c.in-List.values c.as_slice-item-items.result.now c.values.item-index c.in-List.is c.as_slice-item-items.ensures c.values-test.false) c.values.invariant c.put_part.ensures

pub put_value-at-requires-in-pairs : goal.put_value-at-requires-in-pairs
put_value-at-requires-in-pairs t c =
    let d : depth_of c.pair-item.result.value < depth_of c.args.value.now = pair_depth c.args.value.now c.in-Dict.entries c.as_slice-pair-items.result.now c.pairs.pair-index c.pair-item.result c.in-Dict.is c.as_slice-pair-items.ensures.pairs c.pairs-test.true c.pair-item.is in
    let k : depth_of c.args.value.now ≤ 16 = c.requires in
    (omega (arith, c.decreases, d), omega (arith, d, k))

pub pairs-preserved : goal.pairs-preserved
pairs-preserved t c =
    let key = puts_same (ap string_text (sym c.as_slice-in-pairs.ensures)) c.put_string-at.ensures in
    puts_then (ap (λ l. 100 ∷ l) (pairs_text_more c.as_slice-pair-items.result.now c.pairs.pair-index c.pair-item.result c.pairs-test.true c.pair-item.is)) c.pairs.invariant (puts_then refl key c.put_value-at-in-pairs.ensures)

pub returns-after-pairs : goal.returns-after-pairs
returns-after-pairs t c =
    puts_then (dictionary_text c.args.value.now c.in-Dict.entries c.as_slice-pair-items.result.now c.pairs.pair-index c.in-Dict.is c.as_slice-pair-items.ensures.pairs c.pairs-test.false) c.pairs.invariant c.put_part-in-Dict.ensures
