use Rattle.claim_book.proofs.Claims.{one_asker}
use Rattle.claim_book.proofs.laws.one_asker.Goals as goal

pub returns : goal.returns
returns c s J p q x l = one_asker s J l p q x
