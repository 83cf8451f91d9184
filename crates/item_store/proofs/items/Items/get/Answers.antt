use Rattle.item_store.proofs.Looking.{stands_at}
use Rattle.item_store.proofs.items.Items.get.Goals as goal

pub returns-then-is_fresh-clause-item : goal.returns-then-is_fresh-clause-item
returns-then-is_fresh-clause-item c =
    (stands_at c.self.inside.held c.args.key.now c.in_ok-item.item.now _ c.self.invariant.sound c.in_ok-item.ensures c.as_slice.ensures).item

pub returns-then-is_fresh-clause-key : goal.returns-then-is_fresh-clause-key
returns-then-is_fresh-clause-key c =
    (stands_at c.self.inside.held c.args.key.now c.in_ok-item.item.now _ c.self.invariant.sound c.in_ok-item.ensures c.as_slice.ensures).of_key
