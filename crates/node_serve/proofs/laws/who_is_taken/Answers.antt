use Rattle.node_serve.proofs.Solving.{taken}
use Rattle.node_serve.proofs.laws.who_is_taken.Goals as goal

pub returns : goal.returns
returns c = taken
