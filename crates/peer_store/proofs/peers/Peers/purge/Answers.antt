use Rattle.peer_store.proofs.Kept.{kept_purge}
use Rattle.peer_store.proofs.peers.Peers.purge.Goals as goal

pub invariant_of-self : goal.invariant_of-self
invariant_of-self c =
    kept_purge c.self.inside.adds c.drop_old.new.adds c.args.at c.self.invariant c.drop_old.ensures.kept c.drop_old.ensures.length c.drop_old.ensures.sorted c.drop_old.ensures.few_of_a_host
