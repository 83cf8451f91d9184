use Rattle.node_serve.proofs.Gathering.{listed_short}
use Rattle.node_serve.proofs.gather.list.Goals as goal

pub returns-in-Listed-clause-few : goal.returns-in-Listed-clause-few
returns-in-Listed-clause-few g c = let step = c.in-Listed.ensures.step in listed_short step.0 c.args.key c.args.at c.args.first c.in-Listed.list step.2
