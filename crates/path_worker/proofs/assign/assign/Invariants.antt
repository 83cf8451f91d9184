use Rattle.std.proofs.Common.{◌≡◌, ◌+◌, ◌-◌, ◌≤◌, map, length, vec_capacity}
use Rattle.std.specs.List.{range_with_len}
use Rattle.turn_book.specs.Turns.{fresh}
use Rattle.path_worker.specs.Assignment.{assigned}
use Rattle.path_worker.proofs.assign.assign.Given as goal

abbrev pub invariant-loop-left : goal.invariant-loop-left
invariant-loop-left l = record {
  most : l.left ≤ l.fn.paths;
  books : l.book_row.passes ≡ map (fresh l.fn.books.id) (range_with_len 0 (l.left + 1));
  tables : l.table_row.passes ≡ map (fresh l.fn.tables.id) (range_with_len 0 (l.left + 1));
  book_room : l.book_row.room ≡ l.fn.book_row.room;
  table_room : l.table_row.room ≡ l.fn.table_row.room;
  pool : l.pool.items ≡ assigned l.fn.books l.fn.tables l.fn.policy l.left (l.fn.paths - l.left);
  count : length l.pool.items ≡ l.fn.paths - l.left;
  room : l.fn.paths ≤ vec_capacity l.pool;
}

abbrev pub decreases-loop-left : goal.decreases-loop-left
decreases-loop-left l = l.left
