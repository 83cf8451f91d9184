-- What a worker that settles one path leaves of the book and of the routing table, and which calls it made on the table.
use Rattle.std.specs.Prelude.{◌≡◌, ◌≢◌, ℕ, ◌+◌, List, [], ◌∷◌, ◌++◌, map, length, Some, true}
use Rattle.std.specs.List.{All, flat_map}
use Rattle.kad_base.specs.declared.types.Contact.{Contact}
use Rattle.kad_base.specs.declared.serial.Made.{Made}
use Rattle.kad_base.specs.Serial.{left_by, IsRun}
use Rattle.contact_table.specs.declared.calls.TableCall.{TableCall}
use Rattle.contact_table.specs.declared.calls.TableCall.TheVariants.{Seen}
use Rattle.contact_table.specs.declared.calls.TableReply.{TableReply}
use Rattle.contact_table.specs.declared.calls.TableReply.TheVariants.{NoMemory}
use Rattle.contact_table.specs.TableState.{TableState}
use Rattle.contact_table.specs.TableStep.{TableMay, TableStep, table_after}
use Rattle.claim_book.specs.declared.types.Entry.{Entry}
use Rattle.claim_book.specs.declared.types.Entry.TheVariants.{Note}
use Rattle.claim_book.specs.declared.types.Thing.TheVariants.{Responder}
use Rattle.claim_book.specs.Journal.{settles_on, unsettled, first_unsettled}
use Rattle.claim_book.specs.State.{BookState}

-- the role of the worker of a path
abbrev pub role_of : ℕ → ℕ
role_of path = path + 1

-- the calls on the table that go with an entry: a contact that is noted was seen (Kademlia, 2002, section 2.2)
abbrev pub seen_with : Entry → List TableCall
seen_with (Note q c) = Seen c ∷ []
seen_with other = []

-- the run has one call for each entry that notes a contact, in order, by the worker of the path, and none of them
-- wanted memory
pub record TellsSeen (path : ℕ) (entries : List Entry) (run : List (Made TableCall TableReply)) : Type 0 where
  pub calls : map (λ m. m.call) run ≡ flat_map seen_with entries
  pub roles : All (λ m. m.role ≡ role_of path) run
  pub kept : All (λ m. m.reply ≢ NoMemory) run

-- what was settled of the path, in order, and what the table was told of it
pub record Settling (path : ℕ) (old new : BookState) (before after : TableState) : Type 0 where
  pub more : List Entry
  pub setting : new.setting ≡ old.setting
  pub journal : new.journal ≡ old.journal ++ more
  pub settles : All (λ e. settles_on path e ≡ true) more
  pub run : List (Made TableCall TableReply)
  pub tells : TellsSeen path more run
  pub is_run : IsRun TableMay TableStep table_after before run
  pub leaves : after ≡ left_by table_after before run

-- nothing of the path is left to settle, and this many of its things were settled
pub record SettlesAll (path : ℕ) (old new : BookState) (before after : TableState) (count : ℕ) : Type 0 where
  pub settling : Settling path old new before after
  pub none_left : unsettled path new.journal ≡ []
  pub counted : count ≡ length settling.more

-- it went on to a contact that answered, which is not noted: the table's Seen of it wanted memory, and changed nothing
pub record StopsAtResponder (path : ℕ) (old new : BookState) (before after : TableState) : Type 0 where
  pub settling : Settling path old new before after
  pub contact : Contact
  pub first : first_unsettled path new.journal ≡ Some (Responder contact)
