use Rattle.std.proofs.Common.{◌≡◌, ◌≤◌, ◌-◌, ◌++◌, length, take}
use Rattle.peer_store.specs.Peers.{fresh, peers_of}
use Rattle.peer_store.proofs.adds.take_fresh.Given as goal

abbrev pub invariant-loop-peer : goal.invariant-loop-peer
invariant-loop-peer l = record {
  few : length l.all ≤ 50;
  rest : l.all ++ take (50 - length l.all) (peers_of (fresh l.peer-iterator l.at)) ≡ take 50 (l.fn.peers ++ peers_of (fresh l.fn.held l.at));
}
