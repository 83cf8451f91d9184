-- What a lookup promises: its journal, the table that comes back, and what holds where it ended early.
use Rattle.std.specs.Prelude.{◌≡◌, ◌≢◌, ◌⊎◌, ℕ, ◌+◌, ◌==◌, filter, ◌<◌, ◌≤◌, List, [], ◌∷◌, ◌++◌, length, map, Option, None, Result, IfOk, IfErr, IsErrOf, false, true}
use Rattle.std.specs.List.{All, flat_map}
use Rattle.std.specs.List.Sorted.{IsStrictlySortedBy}
use Rattle.kad_base.specs.declared.types.Addr.{Addr}
use Rattle.kad_base.specs.declared.types.Contact.{Contact}
use Rattle.kad_base.specs.declared.types.Event.{Event}
use Rattle.kad_base.specs.declared.types.Event.TheVariants.{Got}
use Rattle.kad_base.specs.declared.serial.Made.{Made}
use Rattle.kad_base.specs.Limits.{max_k, max_paths, max_alpha, max_strays}
use Rattle.kad_base.specs.Outside.{Grows, Rose}
use Rattle.kad_base.specs.Serial.{left_by, IsRun}
use Rattle.kad_distance.specs.KClosest.{k_closest}
use Rattle.id_puzzles.specs.Drawn.{WordsState}
use Rattle.contact_table.specs.declared.calls.TableCall.{TableCall}
use Rattle.contact_table.specs.declared.calls.TableCall.TheVariants.{Seen as Seen_call, Failed, Closest}
use Rattle.contact_table.specs.declared.calls.TableReply.{TableReply}
use Rattle.contact_table.specs.declared.calls.TableReply.TheVariants.{NoMemory}
use Rattle.contact_table.specs.TableState.{TableState}
use Rattle.contact_table.specs.TableStep.{TableMay, TableStep, table_after, contacts_of}
use Rattle.claim_book.specs.declared.types.Setting.{Setting}
use Rattle.claim_book.specs.declared.types.Cause.{Cause}
use Rattle.claim_book.specs.declared.types.Cause.TheVariants.{Timeout}
use Rattle.claim_book.specs.declared.types.Entry.{Entry}
use Rattle.claim_book.specs.declared.types.Entry.TheVariants.{Lost, Note}
use Rattle.claim_book.specs.Journal.{seeds, asked}
use Rattle.claim_book.specs.Legal.{Legal, seeded}
use Rattle.claim_book.specs.RunOut.{RunOut}
use Rattle.claim_book.specs.Result.{result_of}
use Rattle.claim_book.specs.Calls.{Counted}
use Rattle.claim_book.specs.Lineage.{GoesByOwnAnswers}
use Rattle.lookup_core.specs.declared.quest.AskKind.TheVariants.{FindNode}
use Rattle.lookup_core.specs.declared.quest.Quest.{Quest}
use Rattle.lookup_run.specs.declared.types.LookSetting.{LookSetting}
use Rattle.lookup_run.specs.declared.types.LookFault.{LookFault}
use Rattle.lookup_run.specs.declared.types.LookFault.TheVariants.{LinkFault, Strays}
use Rattle.lookup_run.specs.declared.types.Outcome.{Outcome}
use Rattle.lookup_run.specs.Tells.{Given, Seen, TellsSoFar, Tells, EndsAtStray, HasFewStrays, NeverEnds}
use Rattle.lookup_run.specs.Rounds.{Scheduling, Rounds, sequential, concurrent}
use Rattle.lookup_core.specs.Gathered.{addr_cmp}
use Rattle.lookup_run.specs.Gathered.{Gathers}
use Rattle.lookup_core.specs.SendFaults.{RefusedIn}
use Rattle.lookup_core.specs.Sealed.{Accepts}

-- what the book is set to
abbrev pub setting_of : LookSetting → Setting
setting_of look = record { own = look.own; target = look.target; k = look.k; paths = look.paths; alpha = look.alpha; policy = look.policy; per_address = look.per_address; claim = look.claim }

-- what it asks, and what it believes
abbrev pub quest_of : LookSetting → Quest
quest_of look = record { own = look.own; target = look.target; policy = look.policy; kind = look.kind; family = look.family; timeout = look.timeout; sealed = look.sealed; read_only = true; proof = None }

-- the setting is within the limits
pub record IsWithinLimits (look : LookSetting) : Type 0 where
  pub few : look.k ≤ max_k
  pub some_path : 1 ≤ look.paths
  pub few_paths : look.paths ≤ max_paths
  pub some_query : 1 ≤ look.alpha
  pub few_queries : look.alpha ≤ max_alpha

-- the events of a lookup that starts here, and accepts these tags
abbrev pub given_of : LookSetting → Accepts → WordsState → Given
given_of look accepts words = record { setting = setting_of look; quest = quest_of look; accepts = accepts; seed = words.seed; place = words.place }

-- the contacts that a lookup begins with: the k closest of the table (Kademlia, 2002, section 2.3)
abbrev pub seeds_in : LookSetting → TableState → List Contact
seeds_in look table = k_closest look.target look.k (contacts_of table)

-- and how it begins: with these, dealt to its paths
abbrev pub seeds_dealt : LookSetting → TableState → List Entry
seeds_dealt look table = seeded look.per_address look.paths (seeds_in look table)

-- a word for each contact that was asked
abbrev pub drawn_for : WordsState → List Entry → WordsState
drawn_for words J = record { seed = words.seed; place = words.place + length (asked J) }

-- A whole lookup. Its journal is legal, starts with the closest contacts of the table, is what the link's events tell,
-- goes by rounds, and has run out on every path; what was found is its result; each word that was drawn went to one
-- contact; and the peers, tokens and items are those of the answers that were heard.
pub record Finished (look : LookSetting) (accepts : Accepts) (table : TableState) (words words' : WordsState) (told told' : Option (List Event)) (outcome : Outcome) : Type 0 where
  pub legal : Legal (setting_of look) outcome.journal
  pub seeds_are : seeds outcome.journal ≡ seeds_dealt look table
  pub tells : Grows told told' (λ events. Tells (given_of look accepts words) outcome.journal events)
  pub run_out : (p : ℕ) → p < look.paths → RunOut (setting_of look) p outcome.journal
  pub found : outcome.found ≡ result_of (setting_of look) outcome.journal
  pub counted : Counted outcome.journal outcome.counts
  pub drawn : words' ≡ drawn_for words outcome.journal

-- the events, without the last one where that is a datagram, tell the journal so far, and have fewer strays than a lookup takes
pub record TellsEarly (g : Given) (J : List Entry) (events : List Event) : Type 0 where
  pub front : List Event
  pub end : Seen
  pub so_far : TellsSoFar g J front end
  pub few : end.strays < max_strays
  pub whole : (events ≡ front) ⊎ ((from : Addr) × (bytes : List ℕ) × (until : ℕ) × (at : ℕ) × (events ≡ front ++ Got from bytes until at ∷ []))

-- A lookup that ended early: there is a legal journal with the same seeds that the events tell so far, so nobody was asked
-- twice either; and who was lost to a refused send in it, the link counted.
pub record Unfinished (look : LookSetting) (accepts : Accepts) (table : TableState) (words words' : WordsState) (told told' : Option (List Event)) (sends sends' : ℕ) : Type 0 where
  pub journal : List Entry
  pub legal : Legal (setting_of look) journal
  pub seeds_are : seeds journal ≡ seeds_dealt look table
  pub tells : Grows told told' (λ events. TellsEarly (given_of look accepts words) journal events)
  pub drawn : words' ≡ drawn_for words journal
  pub refused : RefusedIn journal sends sends'

-- A lookup that ended with the last stray that it takes: there is a legal journal with the same seeds that the events
-- before that one tell, and by which it is the last.
pub record EndsByStrays (look : LookSetting) (accepts : Accepts) (table : TableState) (words : WordsState) (told told' : Option (List Event)) : Type 0 where
  pub journal : List Entry
  pub legal : Legal (setting_of look) journal
  pub seeds_are : seeds journal ≡ seeds_dealt look table
  pub tells : Grows told told' (λ events. EndsAtStray (given_of look accepts words) journal events max_strays)

-- A lookup that ended early and has met fewer: there is such a journal that the events tell, and by which there are fewer.
pub record MeetsFewStrays (look : LookSetting) (accepts : Accepts) (table : TableState) (words : WordsState) (told told' : Option (List Event)) : Type 0 where
  pub journal : List Entry
  pub legal : Legal (setting_of look) journal
  pub seeds_are : seeds journal ≡ seeds_dealt look table
  pub tells : Grows told told' (λ events. HasFewStrays (given_of look accepts words) journal events max_strays)

-- ---- the table

-- a call of the table, and who makes it
pub record Told : Type 0 where
  pub role : ℕ
  pub call : TableCall

-- a call that was made, without its reply
abbrev pub told_in : Made TableCall TableReply → Told
told_in m = record { role = m.role; call = m.call }

-- the driver tells the table who let the time pass, and the worker of a path who answered (Kademlia, 2002, section 2.2)
abbrev pub lost_by : Contact → Cause → List Told
lost_by c Timeout = record { role = 0; call = Failed c } ∷ []
lost_by c other = []

-- what an entry of the journal tells the table: a timeout, or a contact that answered
abbrev pub told_of : Entry → List Told
told_of (Lost p c cause) = lost_by c cause
told_of (Note p c) = record { role = p + 1; call = Seen_call c } ∷ []
told_of other = []

-- the calls of a lookup: it asks for its seeds, and then tells what its journal has, in order
abbrev pub table_calls : LookSetting → List Entry → List Told
table_calls look J = record { role = 0; call = Closest look.target look.k } ∷ flat_map told_of J

-- one table is what the other becomes by some run
pub record TableRan (table table' : TableState) : Type 0 where
  pub run : List (Made TableCall TableReply)
  pub is_run : IsRun TableMay TableStep table_after table run
  pub leaves : table' ≡ left_by table_after table run

-- those of a role, in order
abbrev pub told_by : ℕ → List Told → List Told
told_by role calls = filter (λ t. t.role == role) calls

-- the calls that were made are these: path by path in this order, and at once those of each role in this order
abbrev pub AreCalls : Scheduling → List Told → List Told → Type 0
AreCalls sequential made calls = made ≡ calls
AreCalls concurrent made calls = (role : ℕ) → told_by role made ≡ told_by role calls

-- by a run of these calls, none of which wanted memory
pub record TableToldBy (scheduling : Scheduling) (calls : List Told) (table table' : TableState) : Type 0 where
  pub run : List (Made TableCall TableReply)
  pub is_run : IsRun TableMay TableStep table_after table run
  pub leaves : table' ≡ left_by table_after table run
  pub calls_are : AreCalls scheduling (map told_in run) calls
  pub kept : All (λ m. m.reply ≢ NoMemory) run

-- in this very order
abbrev pub TableTold : List Told → TableState → TableState → Type 0
TableTold calls table table' = TableToldBy sequential calls table table'

-- ---- the promise

-- What a lookup promises, whichever way its rounds settle: by its setting, the tags that it accepts, the table, the words,
-- and what the link tells, how often it failed to receive and to send, and what of it no call changes, each before and
-- after.
pub record LooksUp {Kept : Type 0} (scheduling : Scheduling) (look : LookSetting) (accepts : Accepts) (before after : TableState) (words words' : WordsState) (told told' : Option (List Event)) (faults faults' sends sends' : ℕ) (was is : Kept) (ended : Result Outcome LookFault) : Type 0 where
  pub lookup : IfOk ended (Finished look accepts before words words' told told')
  pub rounds : IfOk ended (λ outcome. Grows told told' (λ events. Rounds scheduling (given_of look accepts words) outcome.journal events))
  pub own_answers : IfOk ended (λ outcome. GoesByOwnAnswers (setting_of look) outcome.journal)
  pub gathered : IfOk ended (λ outcome. Grows told told' (λ events. Gathers (given_of look accepts words) outcome.journal events outcome.peers outcome.tokens outcome.items))
  pub none_gathered : IfOk ended (λ outcome. look.kind ≡ FindNode → (outcome.peers ≡ []) × (outcome.tokens ≡ []) × (outcome.items ≡ []))
  pub peers_in_order : IfOk ended (λ outcome. IsStrictlySortedBy addr_cmp outcome.peers)
  pub table : IfOk ended (λ outcome. TableToldBy scheduling (table_calls look outcome.journal) before after)
  pub unfinished : IfErr ended (λ fault. Unfinished look accepts before words words' told told' sends sends')
  pub table_left : IfErr ended (λ fault. TableRan before after)
  pub strays : IsErrOf ended Strays → EndsByStrays look accepts before words told told'
  pub few_strays : IfOk ended (λ outcome. Grows told told' (λ events. HasFewStrays (given_of look accepts words) outcome.journal events max_strays))
  pub few_strays_at_fault : IsErrOf ended LinkFault → MeetsFewStrays look accepts before words told told'
  -- the events of a lookup that isn't sealed show by themselves which datagrams are strays
  pub no_last_stray : IfOk ended (λ outcome. look.sealed ≡ false → Grows told told' (NeverEnds (given_of look accepts words) max_strays))
  pub no_last_stray_at_fault : IsErrOf ended LinkFault → look.sealed ≡ false → Grows told told' (NeverEnds (given_of look accepts words) max_strays)
  pub link : IsErrOf ended LinkFault → Rose faults faults'
  pub recv_faults : faults ≤ faults'
  -- no failed receive is made again: where it ends otherwise none failed, whether or not the link tells its events
  pub well : ¬ IsErrOf ended LinkFault → faults' ≡ faults
  -- who was lost because the link would not send, it counted, whether or not it tells its events
  pub refused : IfOk ended (λ outcome. RefusedIn outcome.journal sends sends')
  pub kept : is ≡ was
