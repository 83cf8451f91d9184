use Rattle.std.proofs.Common.{◌<◌, arith}
use Rattle.bucket_tree.specs.Trees.{IsShort}
use Rattle.bucket_tree.proofs.Ways.{hangs_short, low_hangs, high_hangs, falls}
use Rattle.bucket_tree.proofs.SeenRows.{low_all, high_all}
use Rattle.bucket_tree.proofs.node.+list_rows.Goals as goal

pub overflow_add-at : goal.overflow_add-at
overflow_add-at t c = let lt : c.args.at < 160 = hangs_short c.args.at c.args.node.now _ _ _ _ c.in-Fork.is c.requires.hangs c.requires.short in grind (arith, lt)

pub overflow_add-at-in-Fork : goal.overflow_add-at-in-Fork
overflow_add-at-in-Fork t c = let lt : c.args.at < 160 = hangs_short c.args.at c.args.node.now _ _ _ _ c.in-Fork.is c.requires.hangs c.requires.short in grind (arith, lt)

pub list_rows-requires : goal.list_rows-requires
list_rows-requires t c =
    let lt = hangs_short c.args.at c.args.node.now _ _ _ _ c.in-Fork.is c.requires.hangs c.requires.short in (
      falls c.args.at _ lt c.decreases,
      (low_hangs c.args.at c.args.node.now _ _ _ _ _ c.in-Fork.is c.deref-in-Fork.ensures c.requires.hangs, low_all IsShort c.args.node.now _ _ _ _ _ c.in-Fork.is c.deref-in-Fork.ensures c.requires.short),
    )

pub list_rows-requires-in-Fork : goal.list_rows-requires-in-Fork
list_rows-requires-in-Fork t c =
    let lt = hangs_short c.args.at c.args.node.now _ _ _ _ c.in-Fork.is c.requires.hangs c.requires.short in (
      falls c.args.at _ lt c.decreases,
      (
        high_hangs c.args.at c.args.node.now _ _ _ _ _ c.in-Fork.is c.deref-in-Fork-2.ensures c.requires.hangs,
        high_all IsShort c.args.node.now _ _ _ _ _ c.in-Fork.is c.deref-in-Fork-2.ensures c.requires.short,
      ),
    )
