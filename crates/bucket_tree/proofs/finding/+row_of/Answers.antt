use Rattle.std.proofs.Common.{◌<◌, sym, ◌∙◌, arith}
use Rattle.bucket_tree.specs.Trees.{IsShort}
use Rattle.bucket_tree.proofs.Ways.{under_short, falls}
use Rattle.bucket_tree.proofs.SeenRows.{low_all, high_all, low_way, high_way}
use Rattle.bucket_tree.proofs.Found.{leaf_found, low_found, high_found}
use Rattle.bucket_tree.proofs.finding.+row_of.Goals as goal

pub bit-requires : goal.bit-requires
bit-requires t c = under_short c.args.id.now c.args.at c.args.node.now _ _ _ _ c.in-Fork.is c.requires.under c.requires.short

pub overflow_add-at : goal.overflow_add-at
overflow_add-at t c =
    let lt : c.args.at < 160 = under_short c.args.id.now c.args.at c.args.node.now _ _ _ _ c.in-Fork.is c.requires.under c.requires.short in
    grind (arith, lt)

pub overflow_add-at-else-bit : goal.overflow_add-at-else-bit
overflow_add-at-else-bit t c =
    let lt : c.args.at < 160 = under_short c.args.id.now c.args.at c.args.node.now _ _ _ _ c.in-Fork.is c.requires.under c.requires.short in
    grind (arith, lt)

pub row_of-requires : goal.row_of-requires
row_of-requires t c =
    let id = c.args.id.now in
    let lt = under_short id c.args.at c.args.node.now _ _ _ _ c.in-Fork.is c.requires.under c.requires.short in
    let way = high_way id c.args.at c.args.node.now _ _ _ _ _ c.in-Fork.is c.deref-then-bit.ensures (sym c.if-bit.true ∙ c.bit.ensures) c.requires.under in
    let short = high_all IsShort c.args.node.now _ _ _ _ _ c.in-Fork.is c.deref-then-bit.ensures c.requires.short in
    (falls c.args.at _ lt c.decreases, (way, short))

pub row_of-requires-else-bit : goal.row_of-requires-else-bit
row_of-requires-else-bit t c =
    let id = c.args.id.now in
    let lt = under_short id c.args.at c.args.node.now _ _ _ _ c.in-Fork.is c.requires.under c.requires.short in
    let way = low_way id c.args.at c.args.node.now _ _ _ _ _ c.in-Fork.is c.deref-else-bit.ensures (sym c.if-bit.false ∙ c.bit.ensures) c.requires.under in
    let short = low_all IsShort c.args.node.now _ _ _ _ _ c.in-Fork.is c.deref-else-bit.ensures c.requires.short in
    (falls c.args.at _ lt c.decreases, (way, short))

pub returns-in-Leaf : goal.returns-in-Leaf
returns-in-Leaf t c = leaf_found c.args.id.now c.args.at c.args.node.now c.in-Leaf.row _ c.in-Leaf.is c.requires.under c.requires.short c.deref.ensures

pub returns-then-bit : goal.returns-then-bit
returns-then-bit t c = high_found c.args.id.now c.args.node.now _ _ _ _ _ _ c.in-Fork.is c.deref-then-bit.ensures c.row_of.ensures

pub returns-else-bit : goal.returns-else-bit
returns-else-bit t c = low_found c.args.id.now c.args.node.now _ _ _ _ _ _ c.in-Fork.is c.deref-else-bit.ensures c.row_of-else-bit.ensures
