-- The book as an object whose calls are steps: who may make which call, when each reply comes, and what it leaves.
use Rattle.std.specs.Prelude.{◌≡◌, ◌≢◌, ◌⊎◌, ℕ, ◌-◌, ◌<◌, ◌≤◌, [], List, length, Option, Some, None, true, false, get_or}
use Rattle.kad_base.specs.Limits.{max_path_contacts, max_reports}
use Rattle.kad_base.specs.declared.types.Contact.{Contact}
use Rattle.kad_base.specs.declared.types.Report.{Report}
use Rattle.kad_base.specs.Contacts.{among, IsUsable}
use Rattle.kad_base.specs.Puzzles.{Passes}
use Rattle.claim_book.specs.declared.types.Setting.{Setting}
use Rattle.claim_book.specs.declared.types.Thing.TheVariants.{Responder, Told}
use Rattle.claim_book.specs.declared.types.Counts.{Counts}
use Rattle.claim_book.specs.declared.types.Entry.{Entry}
use Rattle.claim_book.specs.declared.types.Entry.TheVariants.{Ask as Ask_entry, Heard as Heard_entry, Lost as Lost_entry, Note as Note_entry, Taken as Taken_entry, Held as Held_entry, Turned as Turned_entry, Rejected as Rejected_entry, Skipped as Skipped_entry}
use Rattle.claim_book.specs.declared.calls.BookCall.{BookCall}
use Rattle.claim_book.specs.declared.calls.BookCall.TheVariants.{Next, Heard, Lost, Finish, Pull, Note, Settle}
use Rattle.claim_book.specs.declared.calls.BookReply.{BookReply}
use Rattle.claim_book.specs.declared.calls.BookReply.TheVariants.{Ask, RunOut as RunOut_reply, Later, Kept, NotOpen, Found, NotYet, Alive, Report as Report_reply, Idle, NotFront, Taken, Held, Turned, Rejected, Skipped, NoMemory}
use Rattle.claim_book.specs.CheckedState.{CheckedState}
use Rattle.claim_book.specs.Journal.{path, asked, askers, failed, turned, open_any, unsettled, first_unsettled, may_ask}
use Rattle.claim_book.specs.Crowded.{IsCrowded}
use Rattle.claim_book.specs.Legal.{IsHeldBy, IsFree}
use Rattle.claim_book.specs.RunOut.{RunOut}
use Rattle.claim_book.specs.Result.{result_of}
use Rattle.claim_book.specs.State.{BookState, added}

-- role 0 drives, role p + 1 settles on path p
abbrev pub BookMay : ℕ → BookCall → Type 0
BookMay role (Next p) = role ≡ 0
BookMay role (Heard c reports) = (role ≡ 0) × (length reports ≤ max_reports)
BookMay role (Lost c cause) = role ≡ 0
BookMay role Finish = role ≡ 0
BookMay role Pull = role ≢ 0
BookMay role (Note c) = role ≢ 0
BookMay role (Settle checked) = role ≢ 0

-- the path that a role settles on
abbrev pub path_of_role : ℕ → ℕ
path_of_role role = role - 1

-- the path that asked a contact
abbrev pub asker : Contact → List Entry → ℕ
asker c J = get_or (askers c J) 0 0

-- a path asks, has run out, or waits for what is open or unsettled
abbrev pub NextStep : Setting → List Entry → ℕ → BookReply → Type 0
NextStep s J p (Ask c) = may_ask s p J ≡ Some c
NextStep s J p RunOut_reply = RunOut s p J
NextStep s J p Later = (may_ask s p J ≡ None) × ¬ RunOut s p J
NextStep s J p other = ⊥

-- the contact was asked and is neither heard nor lost
abbrev pub EndStep : List Entry → Contact → BookReply → Type 0
EndStep J c Kept = among (open_any J) c ≡ true
EndStep J c NotOpen = among (open_any J) c ≡ false
EndStep J c other = ⊥

-- what an open contact gives to settle needs room
abbrev pub HeardStep : List Entry → Contact → BookReply → Type 0
HeardStep J c NoMemory = among (open_any J) c ≡ true
HeardStep J c other = EndStep J c other

-- the number of what was asked, lost and turned away
pub record Counted (J : List Entry) (counts : Counts) : Type 0 where
  pub asked : counts.asked ≡ length (asked J)
  pub failed : counts.failed ≡ length (failed J)
  pub turned : counts.turned ≡ length (turned J)

-- every path has run out, and these are the result and the counts of the lookup
pub record IsFound (s : Setting) (J : List Entry) (found : List Contact) (counts : Counts) : Type 0 where
  pub run_out : (p : ℕ) → p < s.paths → RunOut s p J
  pub is_result : found ≡ result_of s J
  pub counted : Counted J counts

-- the first path that has not run out
pub record IsNotYet (s : Setting) (J : List Entry) (p : ℕ) : Type 0 where
  pub is_path : p < s.paths
  pub not_run_out : ¬ RunOut s p J
  pub before : (q : ℕ) → q < p → RunOut s q J

-- the result where every path has run out, and else the first path that has not
abbrev pub FinishStep : Setting → List Entry → BookReply → Type 0
FinishStep s J (Found found counts) = IsFound s J found counts
FinishStep s J (NotYet p) = IsNotYet s J p
FinishStep s J NoMemory = (p : ℕ) → p < s.paths → RunOut s p J
FinishStep s J other = ⊥

-- the first unsettled thing of the path: a contact that answered, or a report
abbrev pub PullStep : List Entry → ℕ → BookReply → Type 0
PullStep J p (Alive c) = first_unsettled p J ≡ Some (Responder c)
PullStep J p (Report_reply r) = first_unsettled p J ≡ Some (Told r)
PullStep J p Idle = unsettled p J ≡ []
PullStep J p other = ⊥

-- a contact that answered is noted where it is the first unsettled thing of the path
abbrev pub NoteStep : List Entry → ℕ → Contact → BookReply → Type 0
NoteStep J p c Kept = first_unsettled p J ≡ Some (Responder c)
NoteStep J p c NotFront = ¬ (first_unsettled p J ≡ Some (Responder c))
NoteStep J p c other = ⊥

-- the report is the first unsettled thing of the path, and was checked under the policy of the book
pub record IsFront (s : Setting) (J : List Entry) (p : ℕ) (checked : CheckedState) : Type 0 where
  pub first : first_unsettled p J ≡ Some (Told checked.report)
  pub policy : checked.policy ≡ s.policy

-- it is, and may be believed
pub record IsSound (s : Setting) (J : List Entry) (p : ℕ) (checked : CheckedState) : Type 0 where
  pub front : IsFront s J p checked
  pub usable : IsUsable s.own checked.report.contact
  pub passes : Passes s.policy checked.report

-- the first rule that fits
abbrev pub SettleStep : Setting → List Entry → ℕ → CheckedState → BookReply → Type 0
SettleStep s J p checked Skipped = IsFront s J p checked × ¬ IsUsable s.own checked.report.contact
SettleStep s J p checked Rejected = IsFront s J p checked × IsUsable s.own checked.report.contact × ¬ Passes s.policy checked.report
SettleStep s J p checked (Held q) = IsSound s J p checked × IsHeldBy s.claim J p checked.report.contact q
SettleStep s J p checked Turned =
    IsSound s J p checked × IsFree s.claim J p checked.report.contact × ((length (path p J) ≡ max_path_contacts) ⊎ IsCrowded s J p checked.report.contact)
SettleStep s J p checked Taken =
    IsSound s J p checked × IsFree s.claim J p checked.report.contact × (length (path p J) < max_path_contacts) × ¬ IsCrowded s J p checked.report.contact
SettleStep s J p checked NotFront = ¬ IsFront s J p checked
SettleStep s J p checked other = ⊥

-- when each reply comes
abbrev pub BookStep : BookState → ℕ → BookCall → BookReply → Type 0
BookStep book role (Next p) reply = NextStep book.setting book.journal p reply
BookStep book role (Heard c reports) reply = HeardStep book.journal c reply
BookStep book role (Lost c cause) reply = EndStep book.journal c reply
BookStep book role Finish reply = FinishStep book.setting book.journal reply
BookStep book role Pull reply = PullStep book.journal (path_of_role role) reply
BookStep book role (Note c) reply = NoteStep book.journal (path_of_role role) c reply
BookStep book role (Settle checked) reply = SettleStep book.setting book.journal (path_of_role role) checked reply

-- what each call leaves
abbrev pub after_next : BookState → ℕ → BookReply → BookState
after_next book p (Ask c) = added book (Ask_entry p c)
after_next book p other = book

-- the entry stands where the reply is Kept
abbrev pub after_kept : BookState → Entry → BookReply → BookState
after_kept book e Kept = added book e
after_kept book e other = book

-- what a settled report leaves in the journal
abbrev pub settle_entry : ℕ → Report → BookReply → Option Entry
settle_entry p r Skipped = Some (Skipped_entry p r)
settle_entry p r Rejected = Some (Rejected_entry p r)
settle_entry p r (Held q) = Some (Held_entry p r.contact q)
settle_entry p r Turned = Some (Turned_entry p r.contact)
settle_entry p r Taken = Some (Taken_entry p r.contact)
settle_entry p r other = None

-- with an entry that may be missing
abbrev pub with_entry : BookState → Option Entry → BookState
with_entry book None = book
with_entry book (Some e) = added book e

-- with the entry of the reply to Settle
abbrev pub after_settle : BookState → ℕ → CheckedState → BookReply → BookState
after_settle book p checked reply = with_entry book (settle_entry p checked.report reply)

-- the book after a reply: one entry more for a reply that changes it, and else as before
abbrev pub book_after : BookState → ℕ → BookCall → BookReply → BookState
book_after book role (Next p) reply = after_next book p reply
book_after book role (Heard c reports) reply = after_kept book (Heard_entry (asker c book.journal) c reports) reply
book_after book role (Lost c cause) reply = after_kept book (Lost_entry (asker c book.journal) c cause) reply
book_after book role Finish reply = book
book_after book role Pull reply = book
book_after book role (Note c) reply = after_kept book (Note_entry (path_of_role role) c) reply
book_after book role (Settle checked) reply = after_settle book (path_of_role role) checked reply
