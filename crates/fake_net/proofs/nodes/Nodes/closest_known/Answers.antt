use Rattle.std.proofs.Common.{◌≡◌, ◌+◌, true, false, refl, length, sym, ap, subst, ◌∙◌, arith}
use Rattle.std.specs.List.Sorted.{IsStrictlySortedBy}
use Rattle.kad_distance.specs.Order.{closeness}
use Rattle.kad_distance.specs.KClosest.{k_closest}
use Rattle.kad_distance.proofs.Chosen.{closest_nil, closest_rises, closest_few}
use Rattle.fake_net.specs.Network.{node, knows, known_below}
use Rattle.fake_net.proofs.Numbering.{made_one, made_none}
use Rattle.fake_net.proofs.Choosing.{took_one, counts_start}
use Rattle.fake_net.proofs.nodes.Nodes.closest_known.Goals.{then-knows, else-knows}
use Rattle.fake_net.proofs.nodes.Nodes.closest_known.Goals as goal

pub loop-j-init : goal.loop-j-init
loop-j-init c = record {
  items = c.in_ok-found.ensures.items ∙ sym (closest_nil c.args.target.now 8);
  room = (let exact = c.in_ok-found.ensures.exact in omega arith);
  counts = counts_start c.args.self.now.seed c.args.i _ refl;
}

pub put_closest-requires-clause-sorted : goal.put_closest-requires-clause-sorted
put_closest-requires-clause-sorted c =
    subst (IsStrictlySortedBy (closeness c.args.target.now)) (sym c.loop-j.invariant.items)
    (closest_rises c.args.target.now 8 (known_below c.args.self.now.seed c.args.i c.loop-j.j))

pub put_closest-requires-clause-few : goal.put_closest-requires-clause-few
put_closest-requires-clause-few c =
    grind (arith, ap length c.loop-j.invariant.items, closest_few c.args.target.now 8 (known_below c.args.self.now.seed c.args.i c.loop-j.j))

pub loop-j-preserved : goal.loop-j-preserved
loop-j-preserved c =
    let seed = c.args.self.now.seed in
    let i = c.args.i in
    let j = c.loop-j.j in
    elim c.if-knows.branch [
      | then-knows w ↦ record {
        items =
            (let e : knows seed i j ≡ true = sym c.knows.ensures.knows ∙ w.if-knows.true in
            rw w.found-is (took_one c.args.target.now 8 (known_below seed i j) (known_below seed i (j + 1)) w.contact.result (node seed j) c.loop-j.found.items w.put_closest.new.near.items (made_one (node seed) (knows seed i) j e) w.contact.ensures c.loop-j.invariant.items w.put_closest.ensures.items));
        room = rw w.found-is w.put_closest.ensures.room;
        counts = c.knows.ensures.counts;
      }
      | else-knows w ↦ record {
        items =
            (let e : knows seed i j ≡ false = sym c.knows.ensures.knows ∙ w.if-knows.false in
            rw w.found-is (c.loop-j.invariant.items ∙ ap (k_closest c.args.target.now 8) (sym (made_none (node seed) (knows seed i) j e))));
        room = rw w.found-is c.loop-j.invariant.room;
        counts = c.knows.ensures.counts;
      }
    ]
