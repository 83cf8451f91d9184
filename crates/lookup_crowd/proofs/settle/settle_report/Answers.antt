use Rattle.std.proofs.Common.{◌∙◌, Some, refl, ap, sym}
use Rattle.claim_book.specs.declared.types.Thing.TheVariants.{Told}
use Rattle.path_worker.proofs.WorkerSteps.{worker_path}
use Rattle.lookup_crowd.proofs.Settling.{on_report}
use Rattle.lookup_crowd.proofs.settle.settle_report.Goals as goal

pub returns : goal.returns
returns g c =
    on_report c.args.path _ c.args.seeker.now _ c.of-checked.result c.apply.result c.requires.holds (worker_path c.args.path)
    (record { first = c.requires.first ∙ ap (λ r. Some (Told r)) (sym c.of-checked.ensures.report); policy = c.of-checked.ensures.policy ∙ c.requires.policy })
    c.apply.ensures.step c.apply.ensures.after refl refl refl refl
