-- What the calls of a worker's burst are.
use Rattle.std.specs.Prelude.{◌≡◌, ◌≢◌, ℕ, ◌-◌, List, [], ◌∷◌, ◌++◌, length, Some, ◌<◌}
use Rattle.std.specs.List.{All, flat_map}
use Rattle.kad_base.specs.declared.types.Contact.{Contact}
use Rattle.kad_base.specs.declared.types.Report.{Report as KadReport}
use Rattle.kad_base.specs.declared.types.Policy.{Policy}
use Rattle.kad_base.specs.declared.serial.Made.{Made}
use Rattle.kad_base.specs.Serial.{made, left_by, IsRun}
use Rattle.turn_book.specs.Turns.{PassState, mine}
use Rattle.claim_book.specs.CheckedState.{CheckedState}
use Rattle.claim_book.specs.Journal.{unsettled, first_unsettled}
use Rattle.claim_book.specs.Legal.{Legal}
use Rattle.claim_book.specs.State.{BookState}
use Rattle.claim_book.specs.Calls.{BookMay, BookStep, book_after, path_of_role}
use Rattle.claim_book.specs.declared.types.Thing.{Thing}
use Rattle.claim_book.specs.declared.calls.BookCall.{BookCall}
use Rattle.claim_book.specs.declared.calls.BookCall.TheVariants.{Pull, Note, Settle}
use Rattle.claim_book.specs.declared.calls.BookReply.{BookReply}
use Rattle.claim_book.specs.declared.calls.BookReply.TheVariants.{Kept, Alive, Report, Idle, Taken, Held, Turned, Rejected, Skipped}
use Rattle.contact_table.specs.declared.calls.TableCall.{TableCall}
use Rattle.contact_table.specs.declared.calls.TableCall.TheVariants.{Seen}
use Rattle.contact_table.specs.declared.calls.TableReply.{TableReply}
use Rattle.contact_table.specs.declared.calls.TableReply.TheVariants.{NoMemory}
use Rattle.path_worker.specs.Hand.{Hand}

-- one thing that a worker did: a contact that answered, and what the table said to it; or a report, and its outcome
pub data Did : Type 0 where
  noted : Contact → TableReply → Did
  settled : CheckedState → BookReply → Did

-- its calls of the book: a pull, and what takes the thing away
abbrev pub book_calls : ℕ → Did → List (Made BookCall BookReply)
book_calls role (noted c told) = made role Pull (Alive c) ∷ made role (Note c) Kept ∷ []
book_calls role (settled checked reply) = made role Pull (Report checked.report) ∷ made role (Settle checked) reply ∷ []

-- its calls of the table
abbrev pub table_calls : ℕ → Did → List (Made TableCall TableReply)
table_calls role (noted c told) = made role (Seen c) told ∷ []
table_calls role (settled checked reply) = []

-- the report was at the front of its path
abbrev pub IsOutcome : BookReply → Type 0
IsOutcome Taken = Unit {0}
IsOutcome (Held q) = Unit {0}
IsOutcome Turned = Unit {0}
IsOutcome Rejected = Unit {0}
IsOutcome Skipped = Unit {0}
IsOutcome other = ⊥

-- the table had memory; the report was at the front, and was checked under the worker's policy
abbrev pub IsDone : Policy → Did → Type 0
IsDone policy (noted c told) = told ≢ NoMemory
IsDone policy (settled checked reply) = (checked.policy ≡ policy) × IsOutcome reply

-- what the worker did, and then these calls
pub record Grew (old new : Hand) (things : List Did) (pulls : List (Made BookCall BookReply)) (tells : List (Made TableCall TableReply)) : Type 0 where
  pub done : All (IsDone old.policy) things
  pub book : mine new.book ≡ (mine old.book ++ flat_map (book_calls old.book.role) things) ++ pulls
  pub table : mine new.table ≡ (mine old.table ++ flat_map (table_calls old.table.role) things) ++ tells

-- the worker did some things, and counted them
pub record Going (old new : Hand) (n : ℕ) : Type 0 where
  pub things : List Did
  pub grew : Grew old new things [] []
  pub count : n ≡ length things

-- the worker did all there was, the last pull said so, and it counted what it did
pub record Emptied (old new : Hand) (n : ℕ) : Type 0 where
  pub things : List Did
  pub grew : Grew old new things (made old.book.role Pull Idle ∷ []) []
  pub count : n ≡ length things

-- the table had no memory for a contact that had answered
pub record Stopped (old new : Hand) : Type 0 where
  pub things : List Did
  pub contact : Contact
  pub grew : Grew old new things (made old.book.role Pull (Alive contact) ∷ []) (made old.table.role (Seen contact) NoMemory ∷ [])

-- the pass has seen a run that leaves this thing at the front of its path
pub record Pulled (start : BookState) (pass : PassState BookCall BookReply) (thing : Thing) : Type 0 where
  pub run : IsRun BookMay BookStep book_after start pass.seen
  pub front : first_unsettled (pass.role - 1) (left_by book_after start pass.seen).journal ≡ Some thing

-- the run that the pass has seen leaves nothing unsettled on its path
abbrev pub HasSettled : BookState → PassState BookCall BookReply → Type 0
HasSettled start pass = unsettled (path_of_role pass.role) (left_by book_after start pass.seen).journal ≡ []

-- the table pass told the contact, and there was memory
abbrev pub ToldOf : Contact → PassState TableCall TableReply → PassState TableCall TableReply → Type 0
ToldOf c old new = (told : TableReply) × (told ≢ NoMemory) × (mine new ≡ mine old ++ made old.role (Seen c) told ∷ [])

-- the book pass settled the report, checked under the policy
abbrev pub SettledOf : Policy → KadReport → PassState BookCall BookReply → PassState BookCall BookReply → Type 0
SettledOf policy r old new =
    (reply : BookReply) × IsOutcome reply × (mine new ≡ mine old ++ made old.role (Settle (record { policy = policy; report = r })) reply ∷ [])

-- one thing was done
abbrev pub DidOne : Hand → Hand → Type 0
DidOne old new =
    (thing : Did) × IsDone old.policy thing × (mine new.book ≡ mine old.book ++ book_calls old.book.role thing)
    × (mine new.table ≡ mine old.table ++ table_calls old.table.role thing)

-- the pull found nothing to do
abbrev pub FoundNothing : Hand → Hand → Type 0
FoundNothing old new = (mine new.book ≡ mine old.book ++ made old.book.role Pull Idle ∷ []) × (mine new.table ≡ mine old.table)

-- the pull found a contact that had answered, and the table had no memory for it
abbrev pub FoundNoMemory : Hand → Hand → Type 0
FoundNoMemory old new =
    (contact : Contact) × (mine new.book ≡ mine old.book ++ made old.book.role Pull (Alive contact) ∷ [])
    × (mine new.table ≡ mine old.table ++ made old.table.role (Seen contact) NoMemory ∷ [])

-- a turn was opened with such a book: it is legal, and within limits
pub record IsOpened (start : BookState) : Type 0 where
  pub legal : Legal start.setting start.journal
  pub some_path : 0 < start.setting.paths
  pub few_paths : start.setting.paths < 256
  pub small : start.setting.k < 256
