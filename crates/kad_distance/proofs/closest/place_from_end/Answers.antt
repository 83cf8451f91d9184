use Rattle.std.proofs.Common.{◌≡◌, ◌-◌, ◌≤◌, ◌<◌, Bool, true, false, inl, inr, length, get_or, refl, sym, ap, subst, ◌∙◌, arith}
use Rattle.std.specs.Ordering.{is_lt}
use Rattle.std.specs.declared.cmp.Ordering.{Ordering}
use Rattle.std.specs.declared.cmp.Ordering.TheVariants.{Less, Equal, Greater}
use Rattle.std.proofs.lemmas.Bool.{cases_lt}
use Rattle.std.proofs.lemmas.List.{get_or_default}
use Rattle.kad_distance.specs.Order.{closeness}
use Rattle.kad_distance.proofs.Orders.{closeness_total}
use Rattle.kad_distance.proofs.Least.{sorted_parts, count_front}
use Rattle.kad_distance.proofs.closest.place_from_end.Goals as goal

-- one that wasn't closer
not_closer : (r : Ordering) (b : Bool) → b ≡ false → (r ≡ Less → b ≡ true) → is_lt r ≡ false
not_closer Less b was is = (let e : false ≡ true = sym was ∙ is refl in absurd cc)
not_closer Equal b was is = refl
not_closer Greater b was is = refl

pub returns-then-closer-clause-count : goal.returns-then-closer-clause-count
returns-then-closer-clause-count c =
    let t = c.args.target.now in
    let xs = c.args.list.now in
    let x = c.args.contact.now in
    let at = c.loop-at.at in
    let some : 0 < at = c.loop-at-test.true in
    let within : at ≤ length xs = c.loop-at.invariant.within in
    let last : at - 1 < length xs = omega arith in
    count_front (λ y. is_lt (closeness t y x)) xs at within
    (λ k d less. sorted_parts (closeness_total t) xs x c.requires k (at - 1) d (omega (arith, less)) last
    (ap (λ y. is_lt (closeness t y x)) (get_or_default xs (at - 1) d _ last) ∙ ap is_lt (c.closer.ensures.0 c.if-closer.true)))
    c.loop-at.invariant.past

pub loop-at-preserved : goal.loop-at-preserved
loop-at-preserved c =
    let t = c.args.target.now in
    let xs = c.args.list.now in
    let x = c.args.contact.now in
    let at = c.loop-at.at in
    let some : 0 < at = c.loop-at-test.true in
    let within : at ≤ length xs = c.loop-at.invariant.within in
    record {
      within = omega arith;
      past = λ k d from lt.
          elim (cases_lt (at - 1) k) [
            | inl behind ↦ c.loop-at.invariant.past k d (omega (arith, behind)) lt
            | inr before ↦
                let here : at - 1 ≡ k = omega (arith, from, before) in
                subst (λ m. is_lt (closeness t (get_or xs m d) x) ≡ false) here
                (ap (λ y. is_lt (closeness t y x)) (get_or_default xs (at - 1) d _ (omega arith)) ∙ not_closer _ _ c.if-closer.false c.closer.ensures.1)
          ];
    }

pub returns-clause-count : goal.returns-clause-count
returns-clause-count c =
    let t = c.args.target.now in
    let x = c.args.contact.now in
    count_front (λ y. is_lt (closeness t y x)) c.args.list.now c.loop-at.at c.loop-at.invariant.within (λ k d less. absurd (omega (arith, less))) c.loop-at.invariant.past
