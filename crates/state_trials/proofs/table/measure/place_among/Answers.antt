use Rattle.std.proofs.Common.{subst, sym, ◌∙◌}
use Rattle.std.specs.List.Sorted.{IsStrictlySortedBy}
use Rattle.kad_distance.specs.Order.{closeness}
use Rattle.kad_distance.proofs.Chosen.{closest_rises}
use Rattle.state_trials.proofs.table.measure.place_among.Goals as goal

pub place-requires : goal.place-requires
place-requires c =
    let target = c.number-target.result in
    subst (IsStrictlySortedBy (closeness target)) (sym (c.as_slice.ensures ∙ c.in_ok-sorted.ensures)) (closest_rises target 20 c.args.list.now)
