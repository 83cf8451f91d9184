use Rattle.std.proofs.Common.{subst}
use Rattle.kad_krpc.proofs.Gathered.{no_member}
use Rattle.kad_krpc.proofs.members.members.Goals as goal

pub returns-in-None : goal.returns-in-None
returns-in-None g c = subst (λ look. g.S.Slots.filled c.args.slots look c.args.slots) (no_member c.args.value.now c.in-None.ensures) c.law_done.ensures
