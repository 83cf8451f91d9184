use Rattle.std.proofs.Common.{sym, ap, ◌∙◌, arith}
use Rattle.std.proofs.lemmas.List.{append-nil}
use Rattle.kad_distance.specs.KClosest.{k_closest}
use Rattle.kad_distance.proofs.Chosen.{closest_kept}
use Rattle.bucket_tree.proofs.Stops.{closest_entry}
use Rattle.bucket_tree.proofs.Gathered.{gathered_sorted, gathered_few}
use Rattle.bucket_tree.proofs.nearest.put_row.Goals as goal

pub offer-requires-clause-sorted : goal.offer-requires-clause-sorted
offer-requires-clause-sorted c = gathered_sorted c.args.target.now c.args.k _ _ c.loop-entry.invariant.items

pub offer-requires-clause-few : goal.offer-requires-clause-few
offer-requires-clause-few c = let few = gathered_few c.args.target.now c.args.k _ _ c.loop-entry.invariant.items in grind (arith, few)

pub loop-entry-init : goal.loop-entry-init
loop-entry-init c = record {
  items = sym (ap (k_closest c.args.target.now c.args.k) (append-nil c.args.near.now.items) ∙ closest_kept c.args.target.now c.args.k c.args.near.now.items c.requires.sorted (grind (arith, c.requires.few)));
  room = c.requires.room;
}

pub loop-entry-preserved : goal.loop-entry-preserved
loop-entry-preserved c = record {
  items = closest_entry c.args.target.now c.args.k c.args.near.now.items c.live-entry-items.result.now c.loop-entry.entry-index _ _ _ c.loop-entry-test.true c.loop-entry.invariant.items c.offer.ensures.items;
  room = c.offer.ensures.room;
}
