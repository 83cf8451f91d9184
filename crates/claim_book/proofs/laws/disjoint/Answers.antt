use Rattle.claim_book.proofs.Claims.{took_distinct, asked_distinct, asked_on_path}
use Rattle.claim_book.proofs.laws.disjoint.Goals as goal

pub returns-clause-took : goal.returns-clause-took
returns-clause-took c = took_distinct

pub returns-clause-asked : goal.returns-clause-asked
returns-clause-asked c = asked_distinct

pub returns-clause-on_path : goal.returns-clause-on_path
returns-clause-on_path c s J p x l h = asked_on_path s J l p x h
