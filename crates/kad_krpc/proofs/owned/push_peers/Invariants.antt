use Rattle.std.proofs.Common.{◌≡◌, ◌++◌, length}
use Rattle.kad_krpc.specs.Fields.{peers_among}
use Rattle.kad_krpc.proofs.owned.push_peers.Given as goal

-- the peers so far, and those among the values that are left
abbrev pub invariant-loop-value : goal.invariant-loop-value
invariant-loop-value l = l.peers ++ peers_among l.values ≡ l.fn.peers ++ peers_among l.fn.values

abbrev pub decreases-loop-value : goal.decreases-loop-value
decreases-loop-value l = length l.values
