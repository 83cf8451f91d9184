use Rattle.std.proofs.Common.{[], sym, subst, ◌∙◌}
use Rattle.std.specs.List.Sorted.{IsStrictlySortedBy}
use Rattle.kad_distance.specs.Order.{closeness}
use Rattle.kad_distance.proofs.Chosen.{closest_nil, closest_rises}
use Rattle.state_trials.proofs.table.measure.puts_contacts_among_the_two_closest.Goals as goal

pub put_closest-requires-clause-sorted : goal.put_closest-requires-clause-sorted
put_closest-requires-clause-sorted g c =
    let target = c.number-target.result in
    subst (IsStrictlySortedBy (closeness target)) (closest_nil target 2 ∙ sym c.in_ok-near.ensures.items) (closest_rises target 2 [])
