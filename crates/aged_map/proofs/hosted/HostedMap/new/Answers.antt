use Rattle.aged_map.proofs.Telling.{told_none}
use Rattle.aged_map.proofs.hosted.HostedMap.new.Goals as goal

pub invariant_of-result : goal.invariant_of-result
invariant_of-result g c = told_none g.K.Ord.cmp g.V.Hosted.host c.args.per_host c.new.result c.new-2.result.entries c.new.ensures c.new-2.ensures.empty
