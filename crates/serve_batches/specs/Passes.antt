-- The passes of three turns, dealt to workers, and how they come back.
use Rattle.std.specs.Prelude.{◌≡◌, ℕ, List, map, reverse}
use Rattle.turn_book.specs.Turns.{fresh}
use Rattle.serve_crew.specs.Hands.{Hands, TablePass, PeersPass, ItemsPass, hands}
use Rattle.serve_crew.specs.declared.turns.Turns.{Turns}
use Rattle.serve_crew.specs.declared.turns.Rows.{Rows}
use Rattle.serve_batches.specs.declared.shift.Shift.{Shift}

-- worker w before its first call
abbrev pub new_hands : Turns → ℕ → Hands
new_hands turns w = hands (fresh turns.table.id w) (fresh turns.peers.id w) (fresh turns.items.id w)

abbrev pub workers_of : List Shift → List Hands
workers_of crew = map (λ s. s.worker) crew

-- the passes of workers, the last worker's first
abbrev pub table_passes : List Shift → List TablePass
table_passes crew = map (λ s. s.worker.table) (reverse crew)

abbrev pub peers_passes : List Shift → List PeersPass
peers_passes crew = map (λ s. s.worker.peers) (reverse crew)

abbrev pub items_passes : List Shift → List ItemsPass
items_passes crew = map (λ s. s.worker.items) (reverse crew)

-- the rows have just the passes of these workers
pub record HavePasses (rows : Rows) (crew : List Shift) : Type 0 where
  pub table : rows.table.passes ≡ table_passes crew
  pub peers : rows.peers.passes ≡ peers_passes crew
  pub items : rows.items.passes ≡ items_passes crew
