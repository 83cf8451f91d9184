use Rattle.kad_krpc.proofs.Sealing.{whole_parts}
use Rattle.kad_krpc.proofs.seal.parts_of.Goals as goal

pub returns-in_ok-tag-in-Some : goal.returns-in_ok-tag-in-Some
returns-in_ok-tag-in-Some c = whole_parts c.args.top.now c.in-Some.tag.now c.in_ok-tag-in-Some.tag c.in_ok-body-in-Some.body c.in-Some.ensures c.in_ok-tag-in-Some.ensures c.in_ok-body-in-Some.ensures
