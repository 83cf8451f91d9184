use Rattle.std.proofs.Common.{sym, subst}
use Rattle.kad_base.specs.Serial.{left_by}
use Rattle.claim_book.specs.Calls.{PullStep, book_after, path_of_role}
use Rattle.path_worker.proofs.Fronts.{pull_tells}
use Rattle.path_worker.proofs.calls.pull.Goals as goal

pub returns-clause-step : goal.returns-clause-step
returns-clause-step g c =
    subst (λ r. PullStep (left_by book_after c.args.turn.now.start c.call.new.pass.seen).journal (path_of_role r) c.call.result) (sym c.call.ensures.role)
    (pull_tells c.args.turn.now.start c.args.pass.now.role c.call.result c.args.pass.now.seen c.call.new.pass.seen c.call.ensures.run c.call.ensures.seen)
