use Rattle.claim_book.proofs.Hosted.{has_few}
use Rattle.claim_book.proofs.laws.few_of_a_host.Goals as goal

pub returns : goal.returns
returns c = has_few
