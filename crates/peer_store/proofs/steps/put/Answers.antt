use Rattle.std.proofs.Common.{subst}
use Rattle.peer_store.specs.Peers.{PeersState, HasPlace}
use Rattle.peer_store.proofs.Kept.{comes_new}
use Rattle.peer_store.proofs.steps.put.Goals as goal

pub returns-in-Err-NoMemory-clause-step : goal.returns-in-Err-NoMemory-clause-step
returns-in-Err-NoMemory-clause-step c =
    subst (λ (s : PeersState). HasPlace s (c.args.key, c.args.peer)) c.purge.ensures
    (comes_new c.purge.new.self (c.args.key, c.args.peer) c.add.result (rw c.in-Err-NoMemory.field-0-is at c.in-Err-NoMemory.is) c.add.ensures.renewed c.add.ensures.crowded c.add.ensures.full)
