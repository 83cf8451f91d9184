use Rattle.lookup_crowd.proofs.Waiting.{expires_next}
use Rattle.lookup_crowd.proofs.host.expire_all.Goals as goal

pub loop-i-preserved : goal.loop-i-preserved
loop-i-preserved g c =
    expires_next c.args.at c.loop-i.i c.args.seekers.now c.loop-i.seekers c.index-seekers-i.result c.expire.new.seeker c.args.host.now c.loop-i.host c.expire.new.host c.loop-i.invariant c.loop-i-test.true c.expire.ensures.expires c.expire.ensures.same c.expire.ensures.ran
