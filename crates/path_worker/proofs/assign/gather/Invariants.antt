use Rattle.std.proofs.Common.{◌≡◌, ◌+◌, ◌≤◌, ◌++◌, length}
use Rattle.path_worker.specs.Assignment.{book_passes, table_passes}
use Rattle.path_worker.proofs.assign.gather.Given as goal

abbrev pub invariant-loop-job : goal.invariant-loop-job
invariant-loop-job l = record {
  books : l.book_row.passes ++ book_passes l.pool.items ≡ l.fn.book_row.passes ++ book_passes l.fn.pool.items;
  tables : l.table_row.passes ++ table_passes l.pool.items ≡ l.fn.table_row.passes ++ table_passes l.fn.pool.items;
  book_room : length l.book_row.passes + length l.pool.items ≤ l.book_row.room;
  table_room : length l.table_row.passes + length l.pool.items ≤ l.table_row.room;
}

abbrev pub decreases-loop-job : goal.decreases-loop-job
decreases-loop-job l = goal.left-loop-job l
