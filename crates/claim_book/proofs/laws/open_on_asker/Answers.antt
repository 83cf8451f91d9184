use Rattle.claim_book.proofs.Deciding.{open_on_asker}
use Rattle.claim_book.proofs.Kept.{open_on_any}
use Rattle.claim_book.proofs.Forever.{open_by_asker}
use Rattle.claim_book.proofs.laws.open_on_asker.Goals as goal

pub returns-clause-there : goal.returns-clause-there
returns-clause-there c s J x l = open_on_asker J x

pub returns-clause-any : goal.returns-clause-any
returns-clause-any c s J p x l = open_on_any p J x

pub returns-clause-only : goal.returns-clause-only
returns-clause-only c = open_by_asker
