use Rattle.lookup_crowd.proofs.Waiting.{ExpiringTo}
use Rattle.lookup_crowd.proofs.host.expire_all.Given as goal

abbrev pub invariant-loop-i : goal.invariant-loop-i
invariant-loop-i g l = ExpiringTo l.at l.i l.fn.seekers l.seekers l.fn.host l.host
