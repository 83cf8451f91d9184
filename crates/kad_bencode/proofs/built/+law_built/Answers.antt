use Rattle.std.proofs.Common.{◌<◌, ◌≤◌, arith}
use Rattle.kad_bencode.specs.Spelling.{depth_of}
use Rattle.kad_bencode.proofs.Kept.{list_told, dict_told}
use Rattle.kad_bencode.proofs.Writing.{item_depth, pair_depth}
use Rattle.kad_bencode.proofs.built.+law_built.Goals as goal

pub law_built-requires : goal.law_built-requires
law_built-requires t c =
    let d : depth_of c.item-item.result < depth_of c.args.value.now = item_depth c.args.value.now c.in-List.values c.as_slice-item-items.result.now c.values.item-index c.item-item.result c.in-List.is c.as_slice-item-items.ensures c.values-test.true c.item-item.is in
    let k : depth_of c.args.value.now ≤ 16 = c.requires in
    (omega (arith, c.decreases, d), omega (arith, d, k))

pub law_built-requires-in-pairs : goal.law_built-requires-in-pairs
law_built-requires-in-pairs t c =
    let d : depth_of c.pair-item.result.value < depth_of c.args.value.now = pair_depth c.args.value.now c.in-Dict.entries c.as_slice-pair-items.result.now c.pairs.pair-index c.pair-item.result c.in-Dict.is c.as_slice-pair-items.ensures.pairs c.pairs-test.true c.pair-item.is in
    let k : depth_of c.args.value.now ≤ 16 = c.requires in
    (omega (arith, c.decreases, d), omega (arith, d, k))

pub returns-after-values : goal.returns-after-values
returns-after-values t c =
    list_told c.args.value.now c.in-List.values c.as_slice-item-items.result.now c.values.item-index c.in-List.is c.as_slice-item-items.ensures c.values-test.false c.values.invariant

pub returns-after-pairs : goal.returns-after-pairs
returns-after-pairs t c =
    dict_told c.args.value.now c.in-Dict.entries c.as_slice-pair-items.result.now c.pairs.pair-index c.in-Dict.is c.as_slice-pair-items.ensures.pairs c.as_slice-pair-items.ensures.ascending c.pairs-test.false c.pairs.invariant
