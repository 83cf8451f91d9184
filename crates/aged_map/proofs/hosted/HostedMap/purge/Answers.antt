use Rattle.aged_map.specs.PerHost.{IsTold}
use Rattle.aged_map.proofs.Telling.{told_purge}
use Rattle.aged_map.proofs.hosted.HostedMap.purge.Goals as goal

after : (g : _) (c : goal.After-purge g) → IsTold g.K.Ord.cmp g.V.Hosted.host c.self.inside.per_host c.purge.new.self c.self.inside.index.keys.entries
after g c =
    told_purge g.met.K.Ord.total g.V.Hosted.host g.met.V.Hosted.alike g.V.Aged.moment c.args.age c.args.at c.self.inside.per_host c.self.inside.held c.purge.new.self c.self.inside.index.keys.entries
    c.self.invariant c.purge.ensures.kept c.purge.ensures.sorted

pub invariant_of-self : goal.invariant_of-self
invariant_of-self g c = after g c

pub returns-clause-few : goal.returns-clause-few
returns-clause-few g c = (after g c).few
