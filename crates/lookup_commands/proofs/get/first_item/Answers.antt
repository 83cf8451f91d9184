use Rattle.lookup_commands.proofs.Getting.{first_got}
use Rattle.lookup_commands.proofs.get.first_item.Goals as goal

pub returns-then-is_item_of : goal.returns-then-is_item_of
returns-then-is_item_of c = first_got c.args.key.now c.args.items.now c.loop-item.item-index c.item-item.result _ c.loop-item-test.true c.item-item.is c.as_slice.ensures c.loop-item.invariant (c.is_item_of.ensures.0 c.if-is_item_of.true)
