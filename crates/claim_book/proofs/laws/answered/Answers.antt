use Rattle.claim_book.proofs.Ends.{found_answered}
use Rattle.claim_book.proofs.laws.answered.Goals as goal

pub returns : goal.returns
returns c s J x = found_answered s J x
