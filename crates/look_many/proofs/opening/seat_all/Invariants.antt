use Rattle.std.proofs.Common.{◌≡◌, ◌+◌, ◌-◌, ◌≤◌, length, map, vec_capacity}
use Rattle.std.specs.Prelude.{take, drop, reverse}
use Rattle.std.specs.List.{AllZip, range_with_len}
use Rattle.turn_book.specs.Turns.{fresh}
use Rattle.look_many.specs.inner.Seats.{IsBookFor, IsSeekerFor}
use Rattle.look_many.proofs.opening.seat_all.Given as goal

abbrev pub invariant-loop-i : goal.invariant-loop-i
invariant-loop-i l = record {
  books : AllZip (IsBookFor l.fn.desk.setting.now l.fn.setting l.fn.desk.turns.now.table.start) (drop l.i l.fn.jobs) (reverse l.books.items);
  stack : reverse l.stack.items ≡ map (fresh l.fn.desk.turns.now.table.id) (range_with_len (1 + l.i) (length l.fn.jobs - l.i));
  seekers : AllZip (IsSeekerFor l.fn.desk.setting.now l.fn.setting l.fn.desk.turns.now.table.start) (take l.i l.fn.jobs) l.seekers.items;
  passes : map (λ k. k.pass) l.seekers.items ≡ map (fresh l.fn.desk.turns.now.table.id) (range_with_len 1 l.i);
  count : length l.seekers.items ≡ l.i;
  room : length l.fn.jobs ≤ vec_capacity l.seekers;
  same : vec_capacity l.books ≡ vec_capacity l.fn.books;
}
