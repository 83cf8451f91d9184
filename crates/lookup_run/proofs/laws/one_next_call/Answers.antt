use Rattle.lookup_run.proofs.OnceCalls.{next_call, last_call}
use Rattle.lookup_run.proofs.laws.one_next_call.Goals as goal

pub returns-clause-next : goal.returns-clause-next
returns-clause-next c = next_call

pub returns-clause-last : goal.returns-clause-last
returns-clause-last c = last_call
