-- What the workers of all paths are before their bursts, and after them.
use Rattle.std.specs.Prelude.{◌≡◌, ℕ, ◌<◌, List, length, slice_index_or, IfOk}
use Rattle.turn_book.specs.Turns.{TurnState}
use Rattle.claim_book.specs.State.{BookState}
use Rattle.contact_table.specs.TableState.{TableState}
use Rattle.path_worker.specs.Hand.{Hand, SameHand}
use Rattle.path_worker.specs.Burst.{Emptied, HasSettled}
use Rattle.path_worker.specs.declared.pool.Job.{Job}

-- the worker is of these two turns, and checks under the policy of the book
pub record CanWork (books : TurnState BookState) (tables : TurnState TableState) (hand : Hand) : Type 0 where
  pub book : hand.book.turn ≡ books.id
  pub table : hand.table.turn ≡ tables.id
  pub policy : hand.policy ≡ books.start.setting.policy

-- a worker made its burst, and noted the answer
pub record Worked (books : TurnState BookState) (old new : Job) : Type 0 where
  pub same : SameHand old.worker new.worker
  pub emptied : IfOk new.answer (Emptied old.worker new.worker)
  pub settled : IfOk new.answer (λ n. HasSettled books.start new.worker.book)

-- each worker did
abbrev pub AllWorked : TurnState BookState → List Job → List Job → Type 0
AllWorked books old new = (i : ℕ) (d : Job) → i < length old → Worked books (slice_index_or old i d) (slice_index_or new i d)
