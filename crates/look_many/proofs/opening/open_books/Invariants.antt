use Rattle.std.proofs.Common.{◌≡◌, ◌-◌, ◌≤◌, length, vec_capacity}
use Rattle.std.specs.Prelude.{drop, reverse}
use Rattle.std.specs.List.{AllZip}
use Rattle.look_many.specs.inner.Seats.{IsBookFor}
use Rattle.look_many.proofs.opening.open_books.Given as goal

abbrev pub invariant-loop-left : goal.invariant-loop-left
invariant-loop-left l = record {
  most : l.left ≤ length l.fn.jobs;
  table : l.table ≡ l.fn.table;
  books : AllZip (IsBookFor l.fn.server l.fn.setting l.fn.table) (drop l.left l.fn.jobs) (reverse l.books.items);
  count : length l.books.items ≡ length l.fn.jobs - l.left;
  room : length l.fn.jobs ≤ vec_capacity l.books;
}

abbrev pub decreases-loop-left : goal.decreases-loop-left
decreases-loop-left l = l.left
