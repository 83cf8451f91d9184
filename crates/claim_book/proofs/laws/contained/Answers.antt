use Rattle.claim_book.proofs.Descent.{is_contained}
use Rattle.claim_book.proofs.laws.contained.Goals as goal

pub returns : goal.returns
returns c = is_contained
