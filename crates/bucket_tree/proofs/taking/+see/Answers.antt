use Rattle.std.proofs.Common.{◌≡◌, ◌<◌, length, true, false, sym, subst, ◌∙◌, arith}
use Rattle.bucket_tree.specs.Partition.{id_bits, begins}
use Rattle.bucket_tree.specs.Rows.{RowState, IsRow}
use Rattle.bucket_tree.specs.BucketSteps.{NeedsSplit}
use Rattle.bucket_tree.specs.Trees.{IsShort, IsUnder, path}
use Rattle.bucket_tree.proofs.Ways.{under_short, way_on, falls}
use Rattle.bucket_tree.proofs.SeenRows.{no_split, leaf_covers, leaf_seen, one_row, low_step, high_step, low_all, high_all, low_way, high_way}
use Rattle.bucket_tree.proofs.taking.+see.Goals as goal

pub needs_split-requires-clause-covers : goal.needs_split-requires-clause-covers
needs_split-requires-clause-covers t c = leaf_covers c.args.contact.now.id c.args.at c.args.node.now c.in-Leaf.row _ c.in-Leaf.is c.requires.under c.requires.short c.deref.ensures

pub returns-then-not-needs_split-clause-ok : goal.returns-then-not-needs_split-clause-ok
returns-then-not-needs_split-clause-ok t c =
    let s = c.args.setting.now in
    let same : c.deref.result.now ≡ c.deref_mut.result.now = c.deref.ensures ∙ sym c.deref_mut.ensures.value in
    let n : NeedsSplit s.own s.k s.b c.args.contact.now.id c.deref.result.now → ⊥ = no_split _ _ c.if-not-needs_split.true c.needs_split.ensures.needs in
    leaf_seen s.own s.k s.b c.args.contact.now c.args.at c.args.node.now c.in-Leaf.row _ _ _ c.in-Leaf.is c.requires.under c.requires.short c.deref_mut.ensures.value c.requires.others
    (subst (λ (r : RowState). NeedsSplit s.own s.k s.b c.args.contact.now.id r → ⊥) same n) c.take.ensures.ok

pub split-requires-clause-leaf : goal.split-requires-clause-leaf
split-requires-clause-leaf t c = tt

pub split-requires-clause-short : goal.split-requires-clause-short
split-requires-clause-short t c =
    one_row (λ (r : RowState). length r.prefix < 160) _ _ c.deref.ensures (c.needs_split.ensures.two c.if-not-needs_split.false)

pub split-requires-clause-covers : goal.split-requires-clause-covers
split-requires-clause-covers t c =
    let id = c.args.contact.now.id in
    one_row (λ (r : RowState). begins r.prefix (id_bits id) ≡ true) _ _ c.deref.ensures
    (leaf_covers id c.args.at c.args.node.now c.in-Leaf.row _ c.in-Leaf.is c.requires.under c.requires.short c.deref.ensures)

pub split-requires-clause-needs : goal.split-requires-clause-needs
split-requires-clause-needs t c =
    let s = c.args.setting.now in
    one_row (NeedsSplit s.own s.k s.b c.args.contact.now.id) _ _ c.deref.ensures (c.needs_split.ensures.needs.0 c.if-not-needs_split.false)

pub bit-requires : goal.bit-requires
bit-requires t c = under_short c.args.contact.now.id c.args.at c.args.node.now _ _ _ _ c.in-Fork.is c.requires.under c.requires.short

pub overflow_add-at : goal.overflow_add-at
overflow_add-at t c =
    let lt : c.args.at < 160 = under_short c.args.contact.now.id c.args.at c.args.node.now _ _ _ _ c.in-Fork.is c.requires.under c.requires.short in
    grind (arith, lt)

pub overflow_add-at-else-bit : goal.overflow_add-at-else-bit
overflow_add-at-else-bit t c =
    let lt : c.args.at < 160 = under_short c.args.contact.now.id c.args.at c.args.node.now _ _ _ _ c.in-Fork.is c.requires.under c.requires.short in
    grind (arith, lt)

pub see-requires : goal.see-requires
see-requires t c =
    let id = c.args.contact.now.id in
    let s = c.args.setting.now in
    let lt = under_short id c.args.at c.args.node.now _ _ _ _ c.in-Fork.is c.requires.under c.requires.short in
    let way = high_way id c.args.at c.args.node.now _ _ _ _ _ c.in-Fork.is c.deref_mut-then-bit.ensures.value (sym c.if-bit.true ∙ c.bit.ensures) c.requires.under in
    let short = high_all IsShort c.args.node.now _ _ _ _ _ c.in-Fork.is c.deref_mut-then-bit.ensures.value c.requires.short in
    let each = high_all (IsRow s.own s.k s.b) c.args.node.now _ _ _ _ _ c.in-Fork.is c.deref_mut-then-bit.ensures.value c.requires.each in
    (falls c.args.at _ lt c.decreases, (c.requires.some_live, (c.requires.few_live, (c.requires.some_bits, (c.requires.others, (way, (short, each)))))))

pub see-requires-else-bit : goal.see-requires-else-bit
see-requires-else-bit t c =
    let id = c.args.contact.now.id in
    let s = c.args.setting.now in
    let lt = under_short id c.args.at c.args.node.now _ _ _ _ c.in-Fork.is c.requires.under c.requires.short in
    let way = low_way id c.args.at c.args.node.now _ _ _ _ _ c.in-Fork.is c.deref_mut-else-bit.ensures.value (sym c.if-bit.false ∙ c.bit.ensures) c.requires.under in
    let short = low_all IsShort c.args.node.now _ _ _ _ _ c.in-Fork.is c.deref_mut-else-bit.ensures.value c.requires.short in
    let each = low_all (IsRow s.own s.k s.b) c.args.node.now _ _ _ _ _ c.in-Fork.is c.deref_mut-else-bit.ensures.value c.requires.each in
    (falls c.args.at _ lt c.decreases, (c.requires.some_live, (c.requires.few_live, (c.requires.some_bits, (c.requires.others, (way, (short, each)))))))

pub returns-then-bit-clause-ok : goal.returns-then-bit-clause-ok
returns-then-bit-clause-ok t c =
    let s = c.args.setting.now in
    high_step s.own s.k s.b c.args.contact.now c.see.result c.args.node.now _ _ _ _ _ _ c.in-Fork.is c.deref_mut-then-bit.ensures.value c.see.ensures.ok

pub returns-else-bit-clause-ok : goal.returns-else-bit-clause-ok
returns-else-bit-clause-ok t c =
    let s = c.args.setting.now in
    low_step s.own s.k s.b c.args.contact.now c.see-else-bit.result c.args.node.now _ _ _ _ _ _ c.in-Fork.is c.deref_mut-else-bit.ensures.value c.see-else-bit.ensures.ok

pub returns-then-bit-clause-under : goal.returns-then-bit-clause-under
returns-then-bit-clause-under t c = (
  (subst (IsUnder (path c.args.at c.args.contact.now.id)) c.in-Fork.is c.requires.under).0,
  way_on c.args.contact.now.id c.args.at true c.see.new.node (sym c.if-bit.true ∙ c.bit.ensures) c.see.ensures.under,
)

pub returns-else-bit-clause-under : goal.returns-else-bit-clause-under
returns-else-bit-clause-under t c = (
  way_on c.args.contact.now.id c.args.at false c.see-else-bit.new.node (sym c.if-bit.false ∙ c.bit.ensures) c.see-else-bit.ensures.under,
  (subst (IsUnder (path c.args.at c.args.contact.now.id)) c.in-Fork.is c.requires.under).1,
)
