use Rattle.std.proofs.Common.{◌≡◌, OnErr, ap, subst}
use Rattle.aged_map.proofs.Telling.{none_left}
use Rattle.aged_map.proofs.hosted.tell.Goals as goal

pub returns-in-None-clause-err : goal.returns-in-None-clause-err
returns-in-None-clause-err g c =
    let same = ap (λ m. m.entries) c.get_mut.follows.holds-at-none in
    none_left g.K.Ord.cmp g.V.Hosted.host c.args.held.now c.args.index.now.keys.entries c.begin.new.index.entries c.args.host c.begin.result c.in-None.ensures.value
    (subst (λ l. OnErr c.begin.result (c.begin.new.index.entries ≡ l)) same c.begin.ensures.err)
