use Rattle.std.proofs.Common.{sym, subst}
use Rattle.path_worker.specs.WorkerSteps.{SettlesOne}
use Rattle.path_worker.proofs.WorkerSteps.{worker_path, note_one}
use Rattle.path_worker.proofs.alone.note_seen.Goals as goal

pub returns-clause-ok : goal.returns-clause-ok
returns-clause-ok c =
    subst (λ b. SettlesOne c.args.path c.args.book.now b c.args.table.now c.notify_seen.new.table) (sym c.apply.ensures.after)
    (note_one c.args.path _ c.args.book.now c.args.contact c.apply.result c.args.table.now c.notify_seen.new.table (worker_path c.args.path) c.requires.first c.apply.ensures.step c.in_ok-notify_seen.ensures.ok)
