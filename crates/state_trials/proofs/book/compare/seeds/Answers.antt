use Rattle.std.proofs.Common.{◌≤◌, length, sym, subst, ap, arith}
use Rattle.std.specs.List.Sorted.{IsStrictlySortedBy}
use Rattle.kad_distance.specs.Order.{closeness}
use Rattle.kad_distance.proofs.Chosen.{closest_rises, closest_few}
use Rattle.state_trials.proofs.book.compare.seeds.Goals as goal

pub returns-in-Ok-clause-few : goal.returns-in-Ok-clause-few
returns-in-Ok-clause-few c = (let few = closest_few c.args.setting.now.target c.args.setting.now.k c.args.contacts.now in let is = ap length c.in-Ok.ensures in omega arith)

pub returns-in-Ok-clause-in_order : goal.returns-in-Ok-clause-in_order
returns-in-Ok-clause-in_order c = subst (IsStrictlySortedBy (closeness c.args.setting.now.target)) (sym c.in-Ok.ensures) (closest_rises c.args.setting.now.target c.args.setting.now.k c.args.contacts.now)
