use Rattle.claim_book.proofs.Ends.{over_or_ask}
use Rattle.claim_book.proofs.laws.lively.Goals as goal

pub returns : goal.returns
returns c = over_or_ask
