use Rattle.std.proofs.Common.{◌≡◌, ◌-◌, ◌≤◌, [], length, map, false, vec_capacity}
use Rattle.std.specs.List.{range_with_len}
use Rattle.turn_book.specs.Turns.{fresh}
use Rattle.turn_book.specs.Rule.{view, roles_from}
use Rattle.turn_book.proofs.seats.deal.Given as goal

abbrev pub invariant-loop-role : goal.invariant-loop-role
invariant-loop-role g l = record {
  own : l.seat.table_id ≡ l.board.shared.table_id;
  rest : l.seat.me ≡ (view (roles_from l.role (l.roles - l.role)) false, []);
  long : length l.list.items ≡ l.role;
  passes : l.list.items ≡ map (fresh l.board.shared.table_id) (range_with_len 0 l.role);
  room : l.roles ≤ vec_capacity l.list;
}
