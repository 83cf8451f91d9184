use Rattle.std.proofs.Common.{length}
use Rattle.lookup_crowd.proofs.Hosting.{ExpiringBy}
use Rattle.lookup_crowd.proofs.host.expire.Given as goal

abbrev pub invariant-loop-contact : goal.invariant-loop-contact
invariant-loop-contact g l = ExpiringBy l.at l.fn.seeker l.seeker l.fn.host l.host

abbrev pub decreases-loop-contact : goal.decreases-loop-contact
decreases-loop-contact g l = length l.seeker.lookup.queries
