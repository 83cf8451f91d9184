use Rattle.node_serve.proofs.Gathering.{closest_short}
use Rattle.node_serve.proofs.gather.list_closest.Goals as goal

pub returns-in-List-clause-few : goal.returns-in-List-clause-few
returns-in-List-clause-few g c = let step = c.in-List.ensures.step in closest_short step.0 c.args.target c.args.n c.in-List.list step.2
