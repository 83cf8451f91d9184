use Rattle.node_serve.proofs.holder.OwnHold.call_items.Goals as goal

pub apply-requires : goal.apply-requires
apply-requires c = c.requires.may 0
