use Rattle.claim_book.proofs.Seeding.{all_stay}
use Rattle.claim_book.proofs.Hosted.{some_stay}
use Rattle.claim_book.proofs.laws.seeds_stay.Goals as goal

pub returns-clause-unlimited : goal.returns-clause-unlimited
returns-clause-unlimited c = all_stay

pub returns-clause-first : goal.returns-clause-first
returns-clause-first c = some_stay
