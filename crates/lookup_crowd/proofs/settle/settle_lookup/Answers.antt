use Rattle.lookup_crowd.proofs.Settling.{settles_by}
use Rattle.lookup_crowd.proofs.settle.settle_lookup.Goals as goal

pub returns : goal.returns
returns g c = settles_by c.args.seeker.now c.settle_paths-seeker.new.seeker c.settle_paths-seeker.result c.settle_paths-seeker.ensures.some c.settle_paths-seeker.ensures.whole
