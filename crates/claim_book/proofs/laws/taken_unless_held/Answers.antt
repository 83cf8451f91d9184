use Rattle.claim_book.proofs.Descent.{takes_unless_held, drops_none}
use Rattle.claim_book.proofs.laws.taken_unless_held.Goals as goal

pub returns-clause-settled : goal.returns-clause-settled
returns-clause-settled c = takes_unless_held

pub returns-clause-none_dropped : goal.returns-clause-none_dropped
returns-clause-none_dropped c = drops_none
