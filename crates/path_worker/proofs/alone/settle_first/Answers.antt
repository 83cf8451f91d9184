use Rattle.std.proofs.Common.{◌≡◌, subst}
use Rattle.claim_book.specs.State.{BookState}
use Rattle.path_worker.specs.WorkerSteps.{SettlesOne, SettlesReport}
use Rattle.path_worker.proofs.WorkerSteps.{report_one}
use Rattle.path_worker.proofs.alone.settle_first.Goals as goal
use Rattle.path_worker.proofs.alone.settle_first.Goals.{in-Alive+in_ok-note_seen-in-Alive, in-Report, in_default}

pub returns-clause-some : goal.returns-clause-some
returns-clause-some g c =
    let now = c.args.book.now in
    let after : c.apply.new.self ≡ now = c.apply.ensures.after in
    elim c.match-apply.branch [
      | in-Alive+in_ok-note_seen-in-Alive w ↦ rw (w.result-is, w.book-is, w.table-is) (λ yes. subst (λ (b : BookState). SettlesOne c.args.path b w.note_seen.new.book c.args.table.now w.note_seen.new.table) after w.in_ok-note_seen-in-Alive.ensures.ok)
      | in-Report w ↦ rw (w.result-is, w.book-is, w.table-is) (λ yes. report_one c.args.path now w.settle_report.new.book c.args.table.now (subst (λ (b : BookState). SettlesReport c.args.path b w.settle_report.new.book) after w.settle_report.ensures))
      | in_default w ↦ rw w.result-is (λ no. absurd cc)
    ]
