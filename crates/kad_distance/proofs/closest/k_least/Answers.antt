use Rattle.std.proofs.Common.{length, take, sym, ap, subst, ◌∙◌, arith}
use Rattle.std.specs.List.Sorted.{IsStrictlySortedBy}
use Rattle.std.proofs.lemmas.List.{take_all}
use Rattle.kad_distance.specs.Order.{closeness}
use Rattle.kad_distance.specs.KClosest.{k_closest}
use Rattle.kad_distance.proofs.Chosen.{closest_nil, closest_on, closest_rises, closest_few}
use Rattle.kad_distance.proofs.closest.k_least.Goals as goal

pub loop-contact-init : goal.loop-contact-init
loop-contact-init c = record {
  items = c.in_ok-found.ensures.items ∙ sym (closest_nil c.args.target.now c.args.k);
  room = (let exact = c.in_ok-found.ensures.exact in omega arith);
}

pub put_closest-requires-clause-sorted : goal.put_closest-requires-clause-sorted
put_closest-requires-clause-sorted c =
    subst (IsStrictlySortedBy (closeness c.args.target.now)) (sym c.loop-contact.invariant.items)
    (closest_rises c.args.target.now c.args.k (take c.loop-contact.contact-index c.args.list.now))

pub put_closest-requires-clause-few : goal.put_closest-requires-clause-few
put_closest-requires-clause-few c =
    grind (arith, ap length c.loop-contact.invariant.items, closest_few c.args.target.now c.args.k (take c.loop-contact.contact-index c.args.list.now))

pub loop-contact-preserved : goal.loop-contact-preserved
loop-contact-preserved c = record {
  items = closest_on c.args.target.now c.args.k c.args.list.now c.loop-contact.contact-index _ c.loop-contact.found.items c.put_closest.new.near.items c.loop-contact-test.true c.loop-contact.invariant.items c.put_closest.ensures.items;
  room = c.put_closest.ensures.room;
}

pub returns : goal.returns
returns c =
    c.from_vec.ensures
    ∙ c.loop-contact.invariant.items
    ∙ ap (k_closest c.args.target.now c.args.k) (take_all c.loop-contact.contact-index c.args.list.now c.loop-contact-test.false)
