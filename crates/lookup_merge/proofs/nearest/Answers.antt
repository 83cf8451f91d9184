use Rattle.std.proofs.Common.{◌∙◌, ap}
use Rattle.kad_distance.specs.Order.{closeness}
use Rattle.lookup_merge.specs.Rests.{nearer_of}
use Rattle.lookup_merge.proofs.Merged.{nearest_more}
use Rattle.lookup_merge.proofs.nearest.Goals as goal

pub loop-i-preserved : goal.loop-i-preserved
loop-i-preserved c =
    let R = closeness c.args.target.now in
    nearest_more R c.loop-i.best c.nearer-best.result _ c.args.lists.now c.args.places.now c.loop-i.i c.index-lists-i.result c.loop-i-test.true c.requires c.index-lists-i.is (c.nearer-best.ensures ∙ ap (nearer_of R c.loop-i.best) c.next.ensures) c.loop-i.invariant
