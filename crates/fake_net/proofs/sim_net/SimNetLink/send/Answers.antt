use Rattle.fake_net.proofs.Playing.{sent_played}
use Rattle.fake_net.proofs.sim_net.SimNetLink.send.Goals as goal

pub invariant_of-self : goal.invariant_of-self
invariant_of-self c =
    sent_played c.self.inside.nodes c.self.inside.wide c.self.inside.moment c.args.to c.args.bytes.now c.self.inside.waiting.items _ c.self.inside.told c.take-told.result c.telling_sent.result c.in-Ok.ensures c.take-told.ensures.value c.self.invariant c.telling_sent.ensures
