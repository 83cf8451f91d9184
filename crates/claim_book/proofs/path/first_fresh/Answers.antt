use Rattle.std.proofs.Common.{sym, ◌∙◌, arith}
use Rattle.kad_distance.proofs.Orders.{closeness_total}
use Rattle.kad_distance.proofs.Least.{place_count}
use Rattle.claim_book.proofs.Fronts.{none_passes, front_passes, none_first, some_first}
use Rattle.claim_book.proofs.path.first_fresh.Goals as goal

pub returns-in-None : goal.returns-in-None
returns-in-None c = λ T e. sym (none_passes T c.args.k c.args.near.now (sym e ∙ none_first c.args.fresh.now (sym c.in-None.ensures.value)))

pub returns-then-place-k : goal.returns-then-place-k
returns-then-place-k c = λ T e.
    let split = some_first c.args.fresh.now c.in-Some.first.now (sym c.in-Some.ensures.value) in
    let at = c.place.ensures.count ∙ place_count (closeness_total c.args.target.now) c.args.near.now c.in-Some.first.now c.requires in
    sym ((front_passes (closeness_total c.args.target.now) T c.args.k c.args.near.now c.in-Some.first.now split.0 c.requires (sym e ∙ split.1)).past (omega (arith, at, c.if-place-k.true)))

pub returns : goal.returns
returns c = λ T e.
    let split = some_first c.args.fresh.now c.in-Some.first.now (sym c.in-Some.ensures.value) in
    let at = c.place.ensures.count ∙ place_count (closeness_total c.args.target.now) c.args.near.now c.in-Some.first.now c.requires in
    sym ((front_passes (closeness_total c.args.target.now) T c.args.k c.args.near.now c.in-Some.first.now split.0 c.requires (sym e ∙ split.1)).here (omega (arith, at, c.if-place-k.false)))
