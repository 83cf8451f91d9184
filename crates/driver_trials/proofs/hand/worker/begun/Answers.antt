use Rattle.std.proofs.Common.{◌≤◌, length, sym, ◌∙◌, subst}
use Rattle.std.specs.List.Sorted.{IsStrictlySortedBy}
use Rattle.kad_distance.specs.Order.{closeness}
use Rattle.kad_distance.proofs.Chosen.{closest_few, closest_rises}
use Rattle.driver_trials.proofs.hand.worker.begun.Goals as goal

pub new-requires-clause-few : goal.new-requires-clause-few
new-requires-clause-few g c = subst (λ l. length l ≤ c.args.setting.k) (sym (c.as_slice-2.ensures ∙ c.in_ok-seeds.ensures)) (closest_few c.args.setting.target c.args.setting.k _)

pub new-requires-clause-in_order : goal.new-requires-clause-in_order
new-requires-clause-in_order g c = subst (IsStrictlySortedBy (closeness c.args.setting.target)) (sym (c.as_slice-2.ensures ∙ c.in_ok-seeds.ensures)) (closest_rises c.args.setting.target c.args.setting.k _)
