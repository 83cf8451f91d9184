use Rattle.claim_book.proofs.Claims.{one_path, own_is_path}
use Rattle.claim_book.proofs.laws.one_path.Goals as goal

pub returns-clause-only : goal.returns-clause-only
returns-clause-only c s J p q x r l = one_path s J r l p q x

pub returns-clause-own : goal.returns-clause-own
returns-clause-own c = own_is_path
