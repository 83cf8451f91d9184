use Rattle.lookup_run.proofs.Expiring.{told_failed}
use Rattle.lookup_run.proofs.on_reply.notify_failed.Goals as goal

pub returns : goal.returns
returns c = told_failed c.args.contact c.args.table.now c.apply.new.self c.apply.result c.apply.ensures.step c.apply.ensures.after
