use Rattle.std.proofs.Common.{◌++◌, ◌↔◌, List, ap, subst, ◌∙◌, All, IsOk}
use Rattle.path_worker.specs.declared.pool.Job.{Job}
use Rattle.path_worker.specs.Assignment.{book_passes, table_passes}
use Rattle.path_worker.proofs.Pools.{came_back, all_books, all_tables}
use Rattle.path_worker.proofs.together.work.Goals as goal

pub returns-clause-back : goal.returns-clause-back
returns-clause-back g c =
    let new = c.burst_all.new.pool.items in
    let ok = subst (λ (l : List Job). IsOk c.answer_of-answer.result ↔ All (λ (s : Job). IsOk s.answer) l) c.as_slice.ensures.value c.answer_of-answer.ensures in
    came_back c.args.books.now c.args.tables.now c.args.policy c.args.paths c.assign.new.pool.items new c.gather.new.book_row.passes c.gather.new.table_row.passes c.answer_of-answer.result c.assign.ensures.pool c.assign.ensures.count c.burst_all.ensures.len c.burst_all.ensures.each
    (c.gather.ensures.books ∙ ap (λ l. l ++ book_passes new) c.assign.ensures.books) (c.gather.ensures.tables ∙ ap (λ l. l ++ table_passes new) c.assign.ensures.tables) ok

pub returns-clause-books : goal.returns-clause-books
returns-clause-books g c = all_books c.args.books.now c.args.tables.now c.args.policy c.args.paths c.gather.new.book_row.passes c.gather.new.table_row.passes c.answer_of-answer.result (returns-clause-back g c) c.requires.book_roles

pub returns-clause-tables : goal.returns-clause-tables
returns-clause-tables g c = all_tables c.args.books.now c.args.tables.now c.args.policy c.args.paths c.gather.new.book_row.passes c.gather.new.table_row.passes c.answer_of-answer.result (returns-clause-back g c) c.requires.table_roles
