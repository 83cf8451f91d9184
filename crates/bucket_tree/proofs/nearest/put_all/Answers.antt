use Rattle.std.proofs.Common.{sym, ap, ◌∙◌, arith}
use Rattle.std.proofs.lemmas.List.{append-nil}
use Rattle.kad_distance.specs.KClosest.{k_closest}
use Rattle.kad_distance.proofs.Chosen.{closest_kept}
use Rattle.bucket_tree.proofs.Stops.{closest_more}
use Rattle.bucket_tree.proofs.Gathered.{gathered_sorted, gathered_few}
use Rattle.bucket_tree.proofs.nearest.put_all.Goals as goal

pub offer_again-requires-clause-sorted : goal.offer_again-requires-clause-sorted
offer_again-requires-clause-sorted c = gathered_sorted c.args.target.now c.args.k _ _ c.loop-contact.invariant.items

pub offer_again-requires-clause-few : goal.offer_again-requires-clause-few
offer_again-requires-clause-few c = let few = gathered_few c.args.target.now c.args.k _ _ c.loop-contact.invariant.items in grind (arith, few)

pub loop-contact-init : goal.loop-contact-init
loop-contact-init c = record {
  items = sym (ap (k_closest c.args.target.now c.args.k) (append-nil c.args.near.now.items) ∙ closest_kept c.args.target.now c.args.k c.args.near.now.items c.requires.sorted (grind (arith, c.requires.few)));
  room = c.requires.room;
}

pub loop-contact-preserved : goal.loop-contact-preserved
loop-contact-preserved c = record {
  items = closest_more c.args.target.now c.args.k c.args.near.now.items c.args.others.now c.loop-contact.contact-index _ _ _ c.loop-contact-test.true c.loop-contact.invariant.items c.offer_again.ensures.items;
  room = c.offer_again.ensures.room;
}
