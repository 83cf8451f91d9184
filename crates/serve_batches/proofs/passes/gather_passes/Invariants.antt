use Rattle.std.proofs.Common.{◌≡◌, ◌+◌, ◌≤◌, ◌++◌, length}
use Rattle.serve_batches.specs.Passes.{table_passes, peers_passes, items_passes}
use Rattle.serve_batches.proofs.passes.gather_passes.Given as goal

abbrev pub invariant-loop-shift : goal.invariant-loop-shift
invariant-loop-shift l = record {
  tables : l.rows.table.passes ++ table_passes l.crew.items ≡ table_passes l.fn.crew.items;
  peers : l.rows.peers.passes ++ peers_passes l.crew.items ≡ peers_passes l.fn.crew.items;
  items : l.rows.items.passes ++ items_passes l.crew.items ≡ items_passes l.fn.crew.items;
  table_room : length l.rows.table.passes + length l.crew.items ≤ l.rows.table.room;
  peers_room : length l.rows.peers.passes + length l.crew.items ≤ l.rows.peers.room;
  items_room : length l.rows.items.passes + length l.crew.items ≤ l.rows.items.room;
}

abbrev pub decreases-loop-shift : goal.decreases-loop-shift
decreases-loop-shift l = goal.left-loop-shift l
