use Rattle.std.proofs.Common.{sym, subst}
use Rattle.claim_book.specs.State.{BookState}
use Rattle.contact_table.specs.TableState.{TableState}
use Rattle.path_worker.specs.Together.{StopsTogether}
use Rattle.path_worker.proofs.Ends.{stops_at_once, stops_unopened, ends_ok, ends_err}
use Rattle.path_worker.proofs.together.settle_together.Goals as goal

pub returns-in_default-clause-err : goal.returns-in_default-clause-err
returns-in_default-clause-err g c = stops_at_once c.args.book c.args.table

pub returns-in-Err-clause-err : goal.returns-in-Err-clause-err
returns-in-Err-clause-err g c = subst (λ (b : BookState). StopsTogether c.args.book b c.args.table c.args.table) (sym c.in-Err.ensures.refused) (stops_at_once c.args.book c.args.table)

pub returns-in-Err-new-clause-err : goal.returns-in-Err-new-clause-err
returns-in-Err-new-clause-err g c =
    let books = c.in-Ok-new.opened.0 in
    subst (λ (t : TableState). StopsTogether c.args.book c.close-book.result.0 c.args.table t) (sym c.in-Err-new.ensures.refused)
    (subst (λ (b : BookState). StopsTogether b c.close-book.result.0 c.args.table c.args.table) c.in-Ok-new.ensures.state
    (stops_unopened books c.in-Ok-new.opened.1.passes c.close-book.result.0 c.close-book.result.1.calls c.args.table c.in-Ok-new.ensures.passes c.close-book.ensures))

pub returns-clause-ok : goal.returns-clause-ok
returns-clause-ok g c =
    ends_ok c.in-Ok-new.opened.0 c.in-Ok-new-2.opened.0 c.args.policy c.args.paths c.work-answer.new.book_row.passes c.work-answer.new.table_row.passes c.work-answer.result c.work-answer.ensures.back
    c.close-book-2.result.0 c.close-book-2.result.1.calls c.close-book-2.ensures c.close-table.result.0 c.close-table.result.1.calls c.close-table.ensures c.args.book c.args.table
    c.in-Ok-new.ensures.state c.in-Ok-new-2.ensures.state c.requires.paths c.legal.ensures

pub returns-clause-err : goal.returns-clause-err
returns-clause-err g c =
    ends_err c.in-Ok-new.opened.0 c.in-Ok-new-2.opened.0 c.args.policy c.args.paths c.work-answer.new.book_row.passes c.work-answer.new.table_row.passes c.work-answer.result c.work-answer.ensures.back
    c.close-book-2.result.0 c.close-book-2.result.1.calls c.close-book-2.ensures c.close-table.result.0 c.close-table.result.1.calls c.close-table.ensures c.args.book c.args.table
    c.in-Ok-new.ensures.state c.in-Ok-new-2.ensures.state c.requires.paths
