-- What contracts see of a worker.
use Rattle.std.specs.Prelude.{◌≡◌, ℕ, ◌+◌}
use Rattle.kad_base.specs.declared.types.Policy.{Policy}
use Rattle.claim_book.specs.declared.calls.BookCall.{BookCall}
use Rattle.claim_book.specs.declared.calls.BookReply.{BookReply}
use Rattle.contact_table.specs.declared.calls.TableCall.{TableCall}
use Rattle.contact_table.specs.declared.calls.TableReply.{TableReply}
use Rattle.turn_book.specs.Turns.{PassState}

-- a worker: its path, its two passes, and the policy that it checks under
pub record Hand : Type 0 where
  pub path : ℕ
  pub book : PassState BookCall BookReply
  pub table : PassState TableCall TableReply
  pub policy : Policy

-- both passes have the role of the path
pub record HasRole (hand : Hand) : Type 0 where
  pub book : hand.book.role ≡ hand.path + 1
  pub table : hand.table.role ≡ hand.path + 1

-- the same worker at the same two turns
pub record SameHand (old new : Hand) : Type 0 where
  pub path : new.path ≡ old.path
  pub book : new.book.turn ≡ old.book.turn
  pub book_role : new.book.role ≡ old.book.role
  pub table : new.table.turn ≡ old.table.turn
  pub table_role : new.table.role ≡ old.table.role
  pub policy : new.policy ≡ old.policy
