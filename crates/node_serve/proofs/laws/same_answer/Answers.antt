use Rattle.node_serve.proofs.Same.{by_calls, by_rules}
use Rattle.node_serve.proofs.laws.same_answer.Goals as goal

pub returns : goal.returns
returns c = record { by_calls = by_calls; by_rules = by_rules }
