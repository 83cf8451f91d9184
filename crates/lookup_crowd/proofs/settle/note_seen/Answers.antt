use Rattle.path_worker.proofs.WorkerSteps.{worker_path}
use Rattle.lookup_crowd.proofs.Settling.{on_note, some_none}
use Rattle.std.proofs.Common.{refl}
use Rattle.lookup_crowd.proofs.settle.note_seen.Goals as goal

pub returns-clause-ok : goal.returns-clause-ok
returns-clause-ok g c =
    on_note c.args.path _ c.args.seeker.now _ c.args.contact c.apply.result c.requires.can.holds (worker_path c.args.path) c.requires.first c.apply.ensures.step c.apply.ensures.after refl refl refl c.notify_seen.ensures.same c.in-Ok.ensures.ok

pub returns-in-Err-clause-err : goal.returns-in-Err-clause-err
returns-in-Err-clause-err g c = some_none c.args.seeker.now _ c.requires.can.holds refl refl refl c.notify_seen.ensures.same
