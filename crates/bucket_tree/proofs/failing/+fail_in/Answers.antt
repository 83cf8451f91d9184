use Rattle.std.proofs.Common.{◌<◌, true, false, sym, subst, ◌∙◌, arith}
use Rattle.bucket_tree.specs.Trees.{IsShort, IsUnder, IsFailable, path}
use Rattle.bucket_tree.proofs.Ways.{under_short, way_on, falls}
use Rattle.bucket_tree.proofs.SeenRows.{low_all, high_all, low_way, high_way}
use Rattle.bucket_tree.proofs.FailedRows.{leaf_fails, high_fails}
use Rattle.bucket_tree.proofs.failing.+fail_in.Goals as goal

pub bit-requires : goal.bit-requires
bit-requires t c = under_short c.args.contact.now.id c.args.at c.args.node.now _ _ _ _ c.in-Fork.is c.requires.under c.requires.short

pub overflow_add-at : goal.overflow_add-at
overflow_add-at t c =
    let lt : c.args.at < 160 = under_short c.args.contact.now.id c.args.at c.args.node.now _ _ _ _ c.in-Fork.is c.requires.under c.requires.short in
    grind (arith, lt)

pub overflow_add-at-else-bit : goal.overflow_add-at-else-bit
overflow_add-at-else-bit t c =
    let lt : c.args.at < 160 = under_short c.args.contact.now.id c.args.at c.args.node.now _ _ _ _ c.in-Fork.is c.requires.under c.requires.short in
    grind (arith, lt)

pub fail_in-requires : goal.fail_in-requires
fail_in-requires t c =
    let id = c.args.contact.now.id in
    let lt = under_short id c.args.at c.args.node.now _ _ _ _ c.in-Fork.is c.requires.under c.requires.short in
    let way = high_way id c.args.at c.args.node.now _ _ _ _ _ c.in-Fork.is c.deref_mut-then-bit.ensures.value (sym c.if-bit.true ∙ c.bit.ensures) c.requires.under in
    let short = high_all IsShort c.args.node.now _ _ _ _ _ c.in-Fork.is c.deref_mut-then-bit.ensures.value c.requires.short in
    let each = high_all IsFailable c.args.node.now _ _ _ _ _ c.in-Fork.is c.deref_mut-then-bit.ensures.value c.requires.each in
    (falls c.args.at _ lt c.decreases, (way, (short, each)))

pub fail_in-requires-else-bit : goal.fail_in-requires-else-bit
fail_in-requires-else-bit t c =
    let id = c.args.contact.now.id in
    let lt = under_short id c.args.at c.args.node.now _ _ _ _ c.in-Fork.is c.requires.under c.requires.short in
    let way = low_way id c.args.at c.args.node.now _ _ _ _ _ c.in-Fork.is c.deref_mut-else-bit.ensures.value (sym c.if-bit.false ∙ c.bit.ensures) c.requires.under in
    let short = low_all IsShort c.args.node.now _ _ _ _ _ c.in-Fork.is c.deref_mut-else-bit.ensures.value c.requires.short in
    let each = low_all IsFailable c.args.node.now _ _ _ _ _ c.in-Fork.is c.deref_mut-else-bit.ensures.value c.requires.each in
    (falls c.args.at _ lt c.decreases, (way, (short, each)))

pub returns-in-Leaf-clause-step : goal.returns-in-Leaf-clause-step
returns-in-Leaf-clause-step t c = leaf_fails c.args.contact.now c.args.at c.args.node.now c.in-Leaf.row _ _ _ c.in-Leaf.is c.requires.under c.requires.short c.deref_mut.ensures.value c.fail.ensures

pub returns-then-bit-clause-step : goal.returns-then-bit-clause-step
returns-then-bit-clause-step t c = high_fails c.args.contact.now c.fail_in.result c.args.node.now _ _ _ _ _ _ c.in-Fork.is c.deref_mut-then-bit.ensures.value c.fail_in.ensures.step

pub returns-then-bit-clause-under : goal.returns-then-bit-clause-under
returns-then-bit-clause-under t c = (
  (subst (IsUnder (path c.args.at c.args.contact.now.id)) c.in-Fork.is c.requires.under).0,
  way_on c.args.contact.now.id c.args.at true c.fail_in.new.node (sym c.if-bit.true ∙ c.bit.ensures) c.fail_in.ensures.under,
)

pub returns-else-bit-clause-under : goal.returns-else-bit-clause-under
returns-else-bit-clause-under t c = (
  way_on c.args.contact.now.id c.args.at false c.fail_in-else-bit.new.node (sym c.if-bit.false ∙ c.bit.ensures) c.fail_in-else-bit.ensures.under,
  (subst (IsUnder (path c.args.at c.args.contact.now.id)) c.in-Fork.is c.requires.under).1,
)
