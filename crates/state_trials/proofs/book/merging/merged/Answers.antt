use Rattle.std.proofs.Common.{[], ◌∷◌, subst, sym}
use Rattle.std.specs.List.Sorted.{IsStrictlySortedBy}
use Rattle.std.proofs.lemmas.List.Elements.{All-nil, All-cons}
use Rattle.kad_distance.specs.Order.{closeness}
use Rattle.kad_distance.proofs.Chosen.{closest_rises}
use Rattle.state_trials.proofs.book.merging.merged.Goals as goal

pub merge-requires : goal.merge-requires
merge-requires c =
    let R = closeness c.args.target.now in
    All-cons (IsStrictlySortedBy R) _ (c.in_ok-second.second ∷ []) (subst (IsStrictlySortedBy R) (sym c.in_ok-first.ensures) (closest_rises c.args.target.now 20 c.args.a.now))
    (All-cons (IsStrictlySortedBy R) _ [] (subst (IsStrictlySortedBy R) (sym c.in_ok-second.ensures) (closest_rises c.args.target.now 20 c.args.b.now)) (All-nil (IsStrictlySortedBy R)))
