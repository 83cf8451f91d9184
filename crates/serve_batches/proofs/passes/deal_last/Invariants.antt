use Rattle.std.proofs.Common.{◌≡◌, ◌-◌, ◌*◌, ◌≤◌, map, length, vec_capacity}
use Rattle.std.specs.Prelude.{reverse}
use Rattle.std.specs.List.{All, range_with_len}
use Rattle.turn_book.specs.Turns.{fresh}
use Rattle.serve_batches.specs.Crew.{HasSlots}
use Rattle.serve_batches.specs.Passes.{new_hands, workers_of}
use Rattle.serve_batches.proofs.passes.deal_last.Given as goal

abbrev pub invariant-loop-left : goal.invariant-loop-left
invariant-loop-left l = record {
  most : l.left ≤ l.fn.workers;
  tables : l.rows.table.passes ≡ map (fresh l.fn.turns.table.id) (range_with_len 0 l.left);
  peers : l.rows.peers.passes ≡ map (fresh l.fn.turns.peers.id) (range_with_len 0 l.left);
  items : l.rows.items.passes ≡ map (fresh l.fn.turns.items.id) (range_with_len 0 l.left);
  table_room : l.rows.table.room ≡ l.fn.workers;
  peers_room : l.rows.peers.room ≡ l.fn.workers;
  items_room : l.rows.items.room ≡ l.fn.workers;
  crew : workers_of l.crew.items ≡ reverse (map (new_hands l.fn.turns) (range_with_len l.left (l.fn.workers - l.left)));
  roomy : All (HasSlots l.fn.workers) l.crew.items;
  slots : length l.slots.items ≡ l.left;
  slot_room : All (λ s. 32 ≤ length s.items * l.fn.workers) l.slots.items;
  count : length l.crew.items ≡ l.fn.workers - l.left;
  room : l.fn.workers ≤ vec_capacity l.crew;
}

abbrev pub decreases-loop-left : goal.decreases-loop-left
decreases-loop-left l = l.left
