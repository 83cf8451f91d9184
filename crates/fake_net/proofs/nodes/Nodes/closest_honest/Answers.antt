use Rattle.std.proofs.Common.{◌≡◌, ◌+◌, true, false, not, length, sym, ap, subst, ◌∙◌, arith}
use Rattle.std.specs.List.Sorted.{IsStrictlySortedBy}
use Rattle.kad_distance.specs.Order.{closeness}
use Rattle.kad_distance.specs.KClosest.{k_closest}
use Rattle.kad_distance.proofs.Chosen.{closest_nil, closest_rises, closest_few}
use Rattle.fake_net.specs.Network.{node, is_hostile, honest_below}
use Rattle.fake_net.proofs.Numbering.{made_one, made_none}
use Rattle.fake_net.proofs.Choosing.{took_one}
use Rattle.fake_net.proofs.nodes.Nodes.closest_honest.Goals.{then-not-is_hostile, else-not-is_hostile}
use Rattle.fake_net.proofs.nodes.Nodes.closest_honest.Goals as goal

pub loop-i-init : goal.loop-i-init
loop-i-init c = record {
  items = c.in_ok-found.ensures.items ∙ sym (closest_nil c.args.target.now c.args.k);
  room = (let exact = c.in_ok-found.ensures.exact in omega arith);
}

pub put_closest-requires-clause-sorted : goal.put_closest-requires-clause-sorted
put_closest-requires-clause-sorted c =
    subst (IsStrictlySortedBy (closeness c.args.target.now)) (sym c.loop-i.invariant.items)
    (closest_rises c.args.target.now c.args.k (honest_below c.args.self.now c.loop-i.i))

pub put_closest-requires-clause-few : goal.put_closest-requires-clause-few
put_closest-requires-clause-few c =
    grind (arith, ap length c.loop-i.invariant.items, closest_few c.args.target.now c.args.k (honest_below c.args.self.now c.loop-i.i))

pub loop-i-preserved : goal.loop-i-preserved
loop-i-preserved c =
    let net = c.args.self.now in
    let i = c.loop-i.i in
    elim c.if-not-is_hostile.branch [
      | then-not-is_hostile w ↦ record {
        items =
            (let e : not (is_hostile net.hostile i) ≡ true = ap not (sym c.is_hostile.ensures ∙ w.if-not-is_hostile.true) in
            rw w.found-is (took_one c.args.target.now c.args.k (honest_below net i) (honest_below net (i + 1)) w.contact.result (node net.seed i) c.loop-i.found.items w.put_closest.new.near.items (made_one (node net.seed) (λ m. not (is_hostile net.hostile m)) i e) w.contact.ensures c.loop-i.invariant.items w.put_closest.ensures.items));
        room = rw w.found-is w.put_closest.ensures.room;
      }
      | else-not-is_hostile w ↦ record {
        items =
            (let e : not (is_hostile net.hostile i) ≡ false = ap not (sym c.is_hostile.ensures ∙ w.if-not-is_hostile.false) in
            rw w.found-is (c.loop-i.invariant.items ∙ ap (k_closest c.args.target.now c.args.k) (sym (made_none (node net.seed) (λ m. not (is_hostile net.hostile m)) i e))));
        room = rw w.found-is c.loop-i.invariant.room;
      }
    ]
