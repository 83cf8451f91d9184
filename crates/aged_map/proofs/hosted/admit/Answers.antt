use Rattle.std.proofs.Common.{◌<◌, arith}
use Rattle.std.proofs.lemmas.Bool.{false≢true, leb-true, le-leb}
use Rattle.aged_map.specs.Ages.{Holds}
use Rattle.aged_map.proofs.Telling.{told_either, admitted, crowded_by, full_by}
use Rattle.aged_map.proofs.hosted.admit.Goals as goal

absent : (g : _) (c : goal.After-tell g) → ¬ Holds g.K.Ord.cmp c.args.held.now c.args.key
absent g c h = false≢true (c.if-contains.ensures.1 h)

limit : (g : _) (c : goal.After-tell g) → 0 < c.args.per_host
limit g c = omega (arith, c.if-per_host-eq0-2.false)

pub returns-clause-told : goal.returns-clause-told
returns-clause-told g c =
    told_either g.met.K.Ord.total g.V.Hosted.host g.met.V.Hosted.alike c.args.per_host c.args.held.now c.args.index.now.keys.entries c.requires (limit g c)
    c.args.host c.args.key c.tell.new.index.keys.entries c.tell.result (absent g c) c.tell.ensures.ok c.tell.ensures.err

pub returns-clause-ok : goal.returns-clause-ok
returns-clause-ok g c =
    admitted g.met.K.Ord.total g.V.Hosted.host g.met.V.Hosted.alike c.args.per_host c.args.held.now c.args.index.now.keys.entries c.requires (limit g c)
    c.args.host c.args.key c.tell.new.index.keys.entries c.tell.result c.tell.ensures.ok c.tell.ensures.crowded

pub returns-clause-crowded : goal.returns-clause-crowded
returns-clause-crowded g c =
    crowded_by g.met.K.Ord.total g.V.Hosted.host g.met.V.Hosted.alike c.args.per_host c.args.held.now c.args.index.now.keys.entries c.requires (limit g c)
    c.args.key c.args.host _ (absent g c) c.tell.ensures.crowded

pub returns-clause-full : goal.returns-clause-full
returns-clause-full g c =
    full_by g.met.K.Ord.total g.V.Hosted.host g.met.V.Hosted.alike c.args.per_host c.args.held.now c.args.index.now.keys.entries c.requires (limit g c)
    c.args.key c.args.host c.args.most _ _ (absent g c)
    (λ e. (let le = leb-true c.args.most c.len-2.result e in omega (arith, le, c.len-2.ensures)), λ le. le-leb c.args.most c.len-2.result (omega (arith, le, c.len-2.ensures))) c.tell.ensures.full
