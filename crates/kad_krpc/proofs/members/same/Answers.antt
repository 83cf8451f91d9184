use Rattle.kad_krpc.proofs.Gathered.{from_equal}
use Rattle.kad_krpc.proofs.members.same.Goals as goal

pub returns : goal.returns
returns c = from_equal c.args.a.now c.args.b.now c.equal.result c.equal.ensures
