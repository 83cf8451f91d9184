use Rattle.std.proofs.Common.{◌∙◌, Some, ap, sym, subst}
use Rattle.claim_book.specs.declared.types.Thing.TheVariants.{Told}
use Rattle.path_worker.specs.WorkerSteps.{SettlesReport}
use Rattle.path_worker.proofs.WorkerSteps.{worker_path, settle_one}
use Rattle.path_worker.proofs.alone.settle_report.Goals as goal

pub returns : goal.returns
returns g c =
    subst (SettlesReport c.args.path c.args.book.now) (sym c.apply.ensures.after) (settle_one c.args.path _ c.args.book.now c.of-checked.result c.apply.result (worker_path c.args.path) (record { first = c.requires.first ∙ ap (λ r. Some (Told r)) (sym c.of-checked.ensures.report); policy = c.of-checked.ensures.policy ∙ c.requires.policy }) c.apply.ensures.step)
