use Rattle.std.proofs.Common.{List, length, subst, sym, ap, arith}
use Rattle.std.specs.List.{AllByRecursion}
use Rattle.lookup_crowd.specs.declared.due.FollowUp.{FollowUp}
use Rattle.look_many.specs.inner.Following.{CarriesOf}
use Rattle.look_many.proofs.Planning.{kept_written, kept_few}
use Rattle.look_many.proofs.driver.owe.Goals as goal

pub returns-in-Ok-clause-carried : goal.returns-in-Ok-clause-carried
returns-in-Ok-clause-carried c = subst (AllByRecursion CarriesOf) (sym c.in-Ok.ensures.plan) (kept_written _ 0 _ _ c.requires.carried)

pub returns-in-Ok-clause-few : goal.returns-in-Ok-clause-few
returns-in-Ok-clause-few c =
    let few = kept_few c.args.desk.now.setting.now.own 0 c.args.jobs.now c.args.seekers.now c.requires.small in
    let most = c.requires.few in
    let same = ap (λ (l : List FollowUp). length l) c.in-Ok.ensures.plan in
    omega (arith, few, most, same)
