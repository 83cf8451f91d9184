use Rattle.claim_book.proofs.Forever.{past_contacts, past_settled, past_run_out}
use Rattle.claim_book.proofs.laws.past_the_last.Goals as goal

pub returns-clause-no_contacts : goal.returns-clause-no_contacts
returns-clause-no_contacts c = past_contacts

pub returns-clause-settled : goal.returns-clause-settled
returns-clause-settled c = past_settled

pub returns-clause-run_out : goal.returns-clause-run_out
returns-clause-run_out c = past_run_out
