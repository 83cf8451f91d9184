use Rattle.claim_book.proofs.Ends.{over_for_good}
use Rattle.claim_book.proofs.Forever.{none_follows, stays_run_out}
use Rattle.claim_book.proofs.laws.stable.Goals as goal

pub returns-clause-next : goal.returns-clause-next
returns-clause-next c = over_for_good

pub returns-clause-silent : goal.returns-clause-silent
returns-clause-silent c = none_follows

pub returns-clause-stays : goal.returns-clause-stays
returns-clause-stays c = stays_run_out
