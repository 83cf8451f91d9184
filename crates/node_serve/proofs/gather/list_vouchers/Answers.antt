use Rattle.node_serve.proofs.Gathering.{reports_short}
use Rattle.node_serve.proofs.gather.list_vouchers.Goals as goal

pub returns-in-Reports-clause-few : goal.returns-in-Reports-clause-few
returns-in-Reports-clause-few g c = let step = c.in-Reports.ensures.step in reports_short step.0 c.args.target c.args.n c.in-Reports.reports step.2
