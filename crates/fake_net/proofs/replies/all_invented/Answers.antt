use Rattle.fake_net.specs.Replies.{invented}
use Rattle.fake_net.proofs.Numbering.{mapped_one}
use Rattle.fake_net.proofs.replies.all_invented.Goals as goal

pub loop-r-preserved : goal.loop-r-preserved
loop-r-preserved c = mapped_one (invented c.args.target.now c.args.i) c.loop-r.r c.loop-r.contacts c.push.new.self c.invented.result c.loop-r.invariant c.invented.ensures c.in_ok-push.ensures.ok
