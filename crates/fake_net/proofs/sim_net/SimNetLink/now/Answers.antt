use Rattle.fake_net.proofs.Playing.{now_played}
use Rattle.fake_net.proofs.sim_net.SimNetLink.now.Goals as goal

pub invariant_of-self : goal.invariant_of-self
invariant_of-self c = now_played c.self.inside.nodes c.self.inside.wide c.self.inside.moment c.self.inside.waiting.items c.self.inside.told c.take.result c.telling.result c.take.ensures.value c.self.invariant c.telling.ensures
