use Rattle.aged_map.proofs.Telling.{told_anew}
use Rattle.aged_map.proofs.hosted.bound.Goals as goal

pub returns : goal.returns
returns g c =
    told_anew g.met.K.Ord.total g.V.Hosted.host g.met.V.Hosted.alike c.args.per_host c.args.held.now c.args.index.now.keys.entries c.make_anew.new.index.entries c.requires c.make_anew.ensures
