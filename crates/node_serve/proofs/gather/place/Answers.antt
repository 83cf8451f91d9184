use Rattle.std.proofs.Common.{[], ◌∷◌, refl}
use Rattle.peer_store.specs.declared.calls.PeerCall.TheVariants.{Put}
use Rattle.peer_store.specs.declared.calls.PeerReply.TheVariants.{NoMemory}
use Rattle.node_serve.specs.Calls.{on_peers}
use Rattle.node_serve.proofs.gather.place.Goals as goal

pub returns-in-Stored-clause-ok : goal.returns-in-Stored-clause-ok
returns-in-Stored-clause-ok g c = λ s. record { fits = tt; run = (c.call_peers.new.self, c.in-Stored.ensures.does, refl) }

pub returns-in-Crowded-clause-ok : goal.returns-in-Crowded-clause-ok
returns-in-Crowded-clause-ok g c = λ s. record { fits = tt; run = (c.call_peers.new.self, c.in-Crowded.ensures.does, refl) }

pub returns-in-Full-clause-ok : goal.returns-in-Full-clause-ok
returns-in-Full-clause-ok g c = λ s. record { fits = tt; run = (c.call_peers.new.self, c.in-Full.ensures.does, refl) }

pub returns-in-NoMemory-clause-err : goal.returns-in-NoMemory-clause-err
returns-in-NoMemory-clause-err g c =
    λ s. record { did = on_peers (Put c.args.key c.args.peer c.args.at) NoMemory ∷ []; fails = refl; run = (c.call_peers.new.self, c.in-NoMemory.ensures.does, refl) }
