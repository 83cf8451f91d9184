use Rattle.claim_book.proofs.Bounds.{path_few, asked_few}
use Rattle.claim_book.proofs.Forever.{asks_few}
use Rattle.claim_book.proofs.laws.bounded.Goals as goal

pub returns-clause-path : goal.returns-clause-path
returns-clause-path c s J p k l = path_few s J k l p

pub returns-clause-asked_on : goal.returns-clause-asked_on
returns-clause-asked_on c = asks_few

pub returns-clause-asked : goal.returns-clause-asked
returns-clause-asked c = asked_few
