-- How the passes of two turns are assigned, role p + 1 to the worker of path p, and how they come back.
use Rattle.std.specs.Prelude.{◌≡◌, ℕ, ◌+◌, ◌<◌, List, ◌∷◌, map, length, reverse, slice_index_or, Result, Ok, IsOk, IfOk}
use Rattle.std.specs.List.{All, range_with_len}
use Rattle.kad_base.specs.declared.types.NoMemory.{NoMemory}
use Rattle.kad_base.specs.declared.types.Policy.{Policy}
use Rattle.turn_book.specs.Turns.{TurnState, PassState, fresh}
use Rattle.claim_book.specs.State.{BookState}
use Rattle.claim_book.specs.declared.calls.BookCall.{BookCall}
use Rattle.claim_book.specs.declared.calls.BookReply.{BookReply}
use Rattle.contact_table.specs.TableState.{TableState}
use Rattle.contact_table.specs.declared.calls.TableCall.{TableCall}
use Rattle.contact_table.specs.declared.calls.TableReply.{TableReply}
use Rattle.path_worker.specs.Pool.{Worked}
use Rattle.path_worker.specs.declared.pool.Job.{Job}

-- the worker of path p, before its burst
abbrev pub new_job : TurnState BookState → TurnState TableState → Policy → ℕ → Job
new_job books tables policy p =
    record { worker = record { path = p; book = fresh books.id (p + 1); table = fresh tables.id (p + 1); policy = policy }; answer = Ok 0 }

-- those of n paths from p on, the last path first
abbrev pub assigned : TurnState BookState → TurnState TableState → Policy → ℕ → ℕ → List Job
assigned books tables policy p n = reverse (map (new_job books tables policy) (range_with_len p n))

-- the passes of workers, the last worker's first
abbrev pub book_passes : List Job → List (PassState BookCall BookReply)
book_passes pool = map (λ s. s.worker.book) (reverse pool)

abbrev pub table_passes : List Job → List (PassState TableCall TableReply)
table_passes pool = map (λ s. s.worker.table) (reverse pool)

-- the passes are those of role 0, which no one called by, and of a pool: a worker for each path, in order, each of which
-- made its burst from a fresh pass on, and none of which was without memory where the answer says so
pub record CameBack (books : TurnState BookState) (tables : TurnState TableState) (policy : Policy) (paths : ℕ)
    (book_row : List (PassState BookCall BookReply)) (table_row : List (PassState TableCall TableReply)) (answer : Result (Unit {0}) NoMemory) : Type 0 where
  pub pool : List Job
  pub count : length pool ≡ paths
  pub books_back : book_row ≡ fresh books.id 0 ∷ map (λ s. s.worker.book) pool
  pub tables_back : table_row ≡ fresh tables.id 0 ∷ map (λ s. s.worker.table) pool
  pub each : (p : ℕ) (d : Job) → p < paths → Worked books (new_job books tables policy p) (slice_index_or pool p d)
  pub ok : IfOk answer (λ u. All (λ s. IsOk s.answer) pool)
