use Rattle.serve_crew.proofs.Untouched.{untouched}
use Rattle.serve_crew.proofs.turns.Turns.open.Goals as goal

pub returns-in-Err-new-clause-refused : goal.returns-in-Err-new-clause-refused
returns-in-Err-new-clause-refused c =
    let opened = c.in-Ok in
    untouched opened.opened.0 opened.opened.1.passes c.args.table c.close-state.result.0 c.close-state.result.1.calls c.close-state.ensures opened.ensures.state opened.ensures.passes

pub returns-in-Err-new-2-clause-refused : goal.returns-in-Err-new-2-clause-refused
returns-in-Err-new-2-clause-refused c =
    let opened = c.in-Ok in
    let closed = c.close-state-in-Err-new-2 in
    untouched opened.opened.0 opened.opened.1.passes c.args.table closed.result.0 closed.result.1.calls closed.ensures opened.ensures.state opened.ensures.passes
