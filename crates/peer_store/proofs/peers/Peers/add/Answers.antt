use Rattle.peer_store.proofs.Kept.{kept_add}
use Rattle.peer_store.proofs.peers.Peers.add.Goals as goal

pub invariant_of-self-2 : goal.invariant_of-self-2
invariant_of-self-2 c =
    let put = c.put.ensures in
    kept_add c.self.inside.adds c.put.new.adds (c.args.key, c.args.peer) c.args.at c.self.invariant c.is_between.ensures
    c.in-Ok.ensures.ok put.sorted (put.few c.self.invariant.peers.few) put.few_of_a_host
