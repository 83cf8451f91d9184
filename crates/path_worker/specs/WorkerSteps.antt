-- One step of settling a path: what it leaves of the book and of the table.
use Rattle.std.specs.Prelude.{◌≡◌, ◌≢◌, ℕ, ◌+◌, List, [], ◌∷◌, length, Some, true}
use Rattle.kad_base.specs.declared.types.Contact.{Contact}
use Rattle.kad_base.specs.declared.serial.Made.{Made}
use Rattle.kad_base.specs.Serial.{left_by, IsRun}
use Rattle.contact_table.specs.declared.calls.TableCall.{TableCall}
use Rattle.contact_table.specs.declared.calls.TableCall.TheVariants.{Seen}
use Rattle.contact_table.specs.declared.calls.TableReply.{TableReply}
use Rattle.contact_table.specs.declared.calls.TableReply.TheVariants.{NoMemory}
use Rattle.contact_table.specs.TableState.{TableState}
use Rattle.contact_table.specs.TableStep.{TableMay, TableStep, table_after}
use Rattle.claim_book.specs.declared.types.Entry.{Entry}
use Rattle.claim_book.specs.declared.types.Thing.TheVariants.{Responder}
use Rattle.claim_book.specs.Journal.{settles_on, unsettled, first_unsettled}
use Rattle.claim_book.specs.State.{BookState, added}
use Rattle.path_worker.specs.Settling.{role_of, seen_with, TellsSeen}

-- the table was told of a contact that answered, by the worker of the path
pub record IsTold (path : ℕ) (c : Contact) (before after : TableState) : Type 0 where
  pub reply : TableReply
  pub step : TableStep before (role_of path) (Seen c) reply
  pub kept : reply ≢ NoMemory
  pub leaves : after ≡ table_after before (role_of path) (Seen c) reply

-- one entry more, which settled the first thing of the path
pub record SettlesEntry (path : ℕ) (old new : BookState) : Type 0 where
  pub entry : Entry
  pub after : new ≡ added old entry
  pub settles : settles_on path entry ≡ true
  pub less : length (unsettled path new.journal) + 1 ≡ length (unsettled path old.journal)

-- it is a report's, of which the table isn't told
pub record SettlesReport (path : ℕ) (old new : BookState) : Type 0 where
  pub one : SettlesEntry path old new
  pub tells_none : seen_with one.entry ≡ []

-- the first thing of the path was settled, and the table was told what goes with it
pub record SettlesOne (path : ℕ) (old new : BookState) (before after : TableState) : Type 0 where
  pub one : SettlesEntry path old new
  pub run : List (Made TableCall TableReply)
  pub tells : TellsSeen path (one.entry ∷ []) run
  pub is_run : IsRun TableMay TableStep table_after before run
  pub leaves : after ≡ left_by table_after before run

-- nothing of the path is left to settle, and nothing changed
pub record IsSettled (path : ℕ) (old new : BookState) (before after : TableState) : Type 0 where
  pub none_left : unsettled path new.journal ≡ []
  pub book_same : new ≡ old
  pub table_same : after ≡ before

-- the first thing of the path is a contact that answered, and nothing changed
pub record IsStuck (path : ℕ) (old new : BookState) (before after : TableState) : Type 0 where
  pub contact : Contact
  pub first : first_unsettled path new.journal ≡ Some (Responder contact)
  pub book_same : new ≡ old
  pub table_same : after ≡ before
