use Rattle.claim_book.specs.declared.calls.BookCall.TheVariants.{Settle}
use Rattle.claim_book.specs.declared.types.Thing.TheVariants.{Told}
use Rattle.path_worker.proofs.Fronts.{finds, settle_fits, own_calls}
use Rattle.path_worker.proofs.calls.settle.Goals as goal

pub returns-clause-outcome : goal.returns-clause-outcome
returns-clause-outcome g c =
    let p = c.args.pass.now in
    let own = own_calls p c.call.new.pass _ c.call.ensures.role c.call.ensures.mine in
    let found = finds c.args.turn.now.start p.role (Settle c.args.checked) c.call.result p.seen c.call.new.pass.seen (Told c.args.checked.report) c.requires.worker c.requires.legal c.call.ensures.run c.call.ensures.seen own c.requires.front.front in
    settle_fits c.args.turn.now.start p.role c.args.checked c.call.result found c.requires.policy
