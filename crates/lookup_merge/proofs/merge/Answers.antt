use Rattle.std.proofs.Common.{◌≡◌, ◌≤◌, ◌++◌, ◌-◌, ℕ, List, length, map, take, None, sym, ap, ◌∙◌, arith}
use Rattle.std.proofs.lemmas.List.{length-replicate}
use Rattle.std.specs.List.Sorted.{IsStrictlySortedBy}
use Rattle.std.proofs.lemmas.List.Elements.{recursion_from_All}
use Rattle.kad_base.specs.declared.types.Contact.{Contact}
use Rattle.kad_distance.specs.Order.{closeness}
use Rattle.kad_distance.specs.KClosest.{each_once}
use Rattle.kad_distance.proofs.Orders.{closeness_total, closeness_exact}
use Rattle.kad_distance.proofs.Least.{least_take}
use Rattle.lookup_merge.specs.Rests.{rests, nearest_of, after}
use Rattle.lookup_merge.proofs.Merged.{joined, rests_rise, merge_start, merge_none, merge_more, merge_end, written}
use Rattle.lookup_merge.proofs.merge.Goals as goal

pub loop-init : goal.loop-init
loop-init c =
    let R = closeness c.args.target.now in
    record {
      same = ap length c.in_ok-places.ensures ∙ length-replicate (length c.args.lists.now) 0;
      whole = ap (λ (l : List Contact). l ++ take (c.args.k - 0) (each_once R (joined (rests c.args.lists.now c.in_ok-places.places.items)))) c.new-found.ensures
          ∙ merge_start R c.args.lists.now c.in_ok-places.places.items c.args.k c.in_ok-places.ensures;
    }

pub returns-in-None : goal.returns-in-None
returns-in-None c =
    let R = closeness c.args.target.now in
    let is = ap (λ (l : List ℕ). nearest_of R None (rests c.args.lists.now l)) (sym c.as_slice.ensures.value) ∙ sym c.nearest.ensures ∙ c.in-None.is in
    merge_none R (rests c.args.lists.now c.loop.places.items) c.loop.found _ (c.args.k - c.loop.counter) is c.loop.invariant.whole
    ∙ sym (least_take (closeness_total c.args.target.now) c.args.k (joined c.args.lists.now))

pub loop-preserved : goal.loop-preserved
loop-preserved c =
    let R = closeness c.args.target.now in
    let x = c.in-Some.contact in
    let new = c.advance.new.places in
    let lists = c.args.lists.now in
    let is = ap (λ (l : List ℕ). nearest_of R None (rests lists l)) (sym c.as_slice.ensures.value) ∙ sym c.nearest.ensures ∙ c.in-Some.is in
    let long : c.loop.places.len ≡ length new = sym c.as_mut_slice.ensures.len ∙ ap length c.as_mut_slice.ensures.value ∙ c.loop.invariant.same ∙ sym c.advance.ensures.same in
    let whole = written c.loop.places.len new c.loop.places.items long in
    record {
      same = ap length whole ∙ c.advance.ensures.same;
      whole = merge_more (closeness_total c.args.target.now) (closeness_exact c.args.target.now) x (rests lists c.loop.places.items) _ c.loop.found _ _ c.args.k c.loop.counter
          c.loop-test.true (rests_rise R lists c.loop.places.items (recursion_from_All (IsStrictlySortedBy R) lists c.requires)) is
          (ap (rests lists) whole ∙ c.advance.ensures.passed ∙ ap (λ (l : List ℕ). map (after R x) (rests lists l)) c.as_mut_slice.ensures.value)
          c.in_ok-push-in-Some.ensures.ok c.loop.invariant.whole;
    }

pub returns : goal.returns
returns c =
    let R = closeness c.args.target.now in
    let past : c.args.k ≤ c.loop.counter = omega arith in
    merge_end R (rests c.args.lists.now c.loop.places.items) c.loop.found _ c.args.k c.loop.counter past c.loop.invariant.whole
    ∙ sym (least_take (closeness_total c.args.target.now) c.args.k (joined c.args.lists.now))
