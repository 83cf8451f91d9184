use Rattle.kad_krpc.proofs.Gathered.{first_none}
use Rattle.kad_krpc.proofs.members.SlotSlots.law_done.Goals as goal

pub returns : goal.returns
returns g c = (first_none c.args.self.now.found, c.law_done.ensures)
