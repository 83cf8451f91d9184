use Rattle.std.proofs.Common.{length}
use Rattle.lookup_run.proofs.Expiring.{Expiring}
use Rattle.lookup_run.proofs.on_reply.expire.Given as goal

abbrev pub invariant-loop-contact : goal.invariant-loop-contact
invariant-loop-contact l = Expiring l.at l.fn.work l.work

abbrev pub decreases-loop-contact : goal.decreases-loop-contact
decreases-loop-contact l = length l.work.lookup.queries
