use Rattle.claim_book.proofs.Descent.{loses_none}
use Rattle.claim_book.proofs.Alike.{settles_by_asks}
use Rattle.claim_book.proofs.laws.loses_none_to_names.Goals as goal

pub returns-clause-on_its_list : goal.returns-clause-on_its_list
returns-clause-on_its_list c = loses_none

pub returns-clause-by_asks : goal.returns-clause-by_asks
returns-clause-by_asks c = settles_by_asks
