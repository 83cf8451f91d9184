use Rattle.fake_net.proofs.Playing.{begins_played}
use Rattle.fake_net.proofs.sim_net.SimNet.new.Goals as goal

pub invariant_of-result : goal.invariant_of-result
invariant_of-result c = begins_played c.in_ok-new.field-0 _ c.new-2.result c.new-3.result.items c.new-2.ensures c.new-3.ensures.items
