use Rattle.claim_book.proofs.Descent.{has_lineage}
use Rattle.claim_book.proofs.laws.lineage.Goals as goal

pub returns : goal.returns
returns c = has_lineage
