use Rattle.std.proofs.Common.{◌++◌, map, sym, ap, ◌∙◌}
use Rattle.std.proofs.lemmas.List.{append-nil}
use Rattle.look_many.specs.Planned.{by}
use Rattle.look_many.proofs.Planning.{owes_none}
use Rattle.look_many.proofs.plan.plan_one.Goals as goal

pub returns-then-not-may_owe-clause-ok : goal.returns-then-not-may_owe-clause-ok
returns-then-not-may_owe-clause-ok c =
    sym (ap (λ l. c.args.plan.now ++ map (by c.args.owner) l) (owes_none c.args.own c.args.job.now _ _ (sym c.if-not-may_owe.ensures)) ∙ append-nil c.args.plan.now)
