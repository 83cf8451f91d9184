use Rattle.std.proofs.Common.{◌≡◌, ◌<◌, length, true, subst}
use Rattle.bucket_tree.specs.Partition.{id_bits, begins}
use Rattle.bucket_tree.specs.Rows.{RowState, IsRow}
use Rattle.bucket_tree.specs.BucketSteps.{NeedsSplit}
use Rattle.bucket_tree.specs.Trees.{IsLeaf}
use Rattle.bucket_tree.proofs.SeenRows.{leaf_all}
use Rattle.bucket_tree.proofs.taking.split.Goals as goal

pub forked-requires-clause-short : goal.forked-requires-clause-short
forked-requires-clause-short c =
    leaf_all (λ (r : RowState). length r.prefix < 160) c.args.node.now _ _ c.in-Leaf.is c.deref.ensures c.requires.short

pub forked-requires-clause-covers : goal.forked-requires-clause-covers
forked-requires-clause-covers c =
    leaf_all (λ (r : RowState). begins r.prefix (id_bits c.args.contact.now.id) ≡ true) c.args.node.now _ _ c.in-Leaf.is c.deref.ensures c.requires.covers

pub forked-requires-clause-each : goal.forked-requires-clause-each
forked-requires-clause-each c =
    let s = c.args.setting.now in leaf_all (IsRow s.own s.k s.b) c.args.node.now _ _ c.in-Leaf.is c.deref.ensures c.requires.each

pub forked-requires-clause-needs : goal.forked-requires-clause-needs
forked-requires-clause-needs c =
    let s = c.args.setting.now in
    leaf_all (NeedsSplit s.own s.k s.b c.args.contact.now.id) c.args.node.now _ _ c.in-Leaf.is c.deref.ensures c.requires.needs

pub unreachable-requires : goal.unreachable-requires
unreachable-requires c = subst IsLeaf c.in-Fork.is c.requires.leaf
