use Rattle.item_store.proofs.Keeping.{kept_purge}
use Rattle.item_store.proofs.items.Items.purge.Goals as goal

pub invariant_of-self : goal.invariant_of-self
invariant_of-self c =
    kept_purge c.self.inside.held c.purge.new.self c.args.at c.self.invariant c.purge.ensures.kept c.purge.ensures.length c.purge.ensures.sorted c.purge.ensures.few
