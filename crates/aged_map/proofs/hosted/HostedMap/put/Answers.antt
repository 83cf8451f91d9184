use Rattle.std.proofs.Common.{◌≡◌, sym, subst}
use Rattle.std.specs.Map.{lookup}
use Rattle.std.specs.Option.{IfSome}
use Rattle.std.specs.BTreeMap.{is_at}
use Rattle.aged_map.specs.PerHost.{IsTold}
use Rattle.aged_map.proofs.Telling.{told_by}
use Rattle.aged_map.proofs.hosted.HostedMap.put.Goals as goal

after : (g : _) (c : goal.Joined-put g) → IsTold g.K.Ord.cmp g.V.Hosted.host c.self.inside.per_host c.put.new.self c.admit.new.index.keys.entries
after g c =
    told_by g.met.K.Ord.total g.V.Hosted.host g.met.V.Hosted.alike c.self.inside.per_host c.self.inside.held c.put.new.self c.admit.new.index.keys.entries
    c.args.key c.args.value c.host-host.result c.put.result c.admit.ensures.told c.in-Ok.ensures.ok c.host-host.ensures
    (subst (λ s. IfSome (lookup (is_at (g.K.Ord.cmp c.args.key)) s.held) (λ w. g.V.Hosted.host c.args.key w ≡ g.V.Hosted.host c.args.key c.args.value)) (sym c.self.view_is) c.requires)
    c.put.ensures.stored c.put.ensures.err c.put.ensures.sorted

pub invariant_of-self-2 : goal.invariant_of-self-2
invariant_of-self-2 g c = after g c

pub returns-clause-few : goal.returns-clause-few
returns-clause-few g c = (after g c).few
