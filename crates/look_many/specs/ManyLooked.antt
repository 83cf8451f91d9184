-- What is known of several lookups at the same time on one link, while the node answers what is for none of them: each has the
-- promise of a lookup by its own journal, whatever the others meet (S/Kademlia, 2007, section 4.4), and the calls on what they
-- share stand in legal runs.
use Rattle.std.specs.Prelude.{◌≡◌, ◌≢◌, ◌⊎◌, ℕ, suc, ◌+◌, ◌<◌, ◌≤◌, List, [], ◌∷◌, ◌++◌, length, map, slice_index_or, filter, nat_eq, Option, false}
use Rattle.std.specs.List.{All, AllZip, flat_map}
use Rattle.std.specs.List.Sorted.{IsStrictlySortedBy}
use Rattle.kad_base.specs.declared.types.Addr.{Addr}
use Rattle.kad_base.specs.declared.types.Id.{Id}
use Rattle.kad_base.specs.declared.types.Contact.{Contact}
use Rattle.kad_base.specs.declared.types.Event.{Event}
use Rattle.kad_base.specs.declared.types.Event.TheVariants.{Got}
use Rattle.kad_base.specs.declared.types.Family.TheVariants.{Four}
use Rattle.kad_base.specs.Limits.{max_paths, max_alpha, max_strays}
use Rattle.kad_base.specs.Outside.{Grows}
use Rattle.kad_base.specs.Serial.{calls_of}
use Rattle.kad_distance.specs.KClosest.{k_closest}
use Rattle.id_puzzles.specs.Drawn.{WordsState}
use Rattle.claim_book.specs.declared.types.Setting.{Setting}
use Rattle.claim_book.specs.declared.types.Entry.{Entry}
use Rattle.claim_book.specs.Calls.{Counted}
use Rattle.claim_book.specs.Journal.{seeds}
use Rattle.claim_book.specs.Legal.{Legal, seeded}
use Rattle.claim_book.specs.Lineage.{GoesByOwnAnswers}
use Rattle.claim_book.specs.Result.{result_of}
use Rattle.claim_book.specs.RunOut.{RunOut}
use Rattle.contact_table.specs.TableState.{TableState}
use Rattle.contact_table.specs.TableStep.{contacts_of}
use Rattle.contact_table.specs.Told.{calls_in, seen_calls}
use Rattle.contact_table.specs.declared.calls.TableCall.TheVariants.{Closest}
use Rattle.contact_table.specs.declared.calls.TableReply.TheVariants.{List as Listed}
use Rattle.lookup_core.specs.declared.quest.AskKind.TheVariants.{FindNode}
use Rattle.lookup_core.specs.declared.quest.Quest.{Quest}
use Rattle.lookup_core.specs.Gathered.{GathersOf, addr_cmp}
use Rattle.lookup_core.specs.Sealed.{Accepts}
use Rattle.lookup_core.specs.SendFaults.{unsent, IsCounted}
use Rattle.node_serve.specs.declared.lasting.Lasting.{Lasting}
use Rattle.node_serve.specs.declared.setting.ServeSetting.{ServeSetting}
use Rattle.node_serve.specs.Calls.{Did, on_table}
use Rattle.node_serve.specs.Sealing.{Tags}
use Rattle.serve_crew.specs.Runs.{Ran, HadAllMemory, AreCalls, AreFirstCalls}
use Rattle.lookup_crowd.specs.declared.seeker.ManyFault.{ManyFault}
use Rattle.lookup_crowd.specs.declared.seeker.ManyFault.TheVariants.{LinkFault, Strays, NoMemory}
use Rattle.lookup_crowd.specs.declared.due.FollowUp.{FollowUp}
use Rattle.lookup_crowd.specs.Mine.{Mine, Whose}
use Rattle.lookup_crowd.specs.Many.{Frame, Reading, Shown, ManyTell, ManyTellSoFar, EndsAtForeign}
use Rattle.lookup_crowd.specs.Errands.{noted, drawn_by, Errand, did_of, answer_in, loss_in}
use Rattle.look_many.specs.declared.found.ManySetting.{ManySetting}
use Rattle.look_many.specs.declared.found.One.{One}
use Rattle.look_many.specs.declared.found.Many.{Many}
use Rattle.look_many.specs.declared.job.Job.{Job}
use Rattle.look_many.specs.Job.{target_of, kind_of}
use Rattle.look_many.specs.Planned.{follow_ups, follows_read}

-- the setting is within the limits
pub record IsWithinLimits (setting : ManySetting) : Type 0 where
  pub some_path : 1 ≤ setting.paths
  pub few_paths : setting.paths ≤ max_paths
  pub some_query : 1 ≤ setting.alpha
  pub few_queries : setting.alpha ≤ max_alpha

-- ---- each lookup

-- what its book is set to
abbrev pub setting_for : ServeSetting → ManySetting → Job → Setting
setting_for server setting job = record { own = server.own; target = target_of job; k = server.k; paths = setting.paths; alpha = setting.alpha; policy = server.policy; per_address = setting.per_address; claim = setting.claim }

-- what it asks, and what it believes: the node answers others, so it isn't read-only (BEP 43), and brings the proof of its
-- identifier, if it has one
abbrev pub quest_for : ServeSetting → ManySetting → Job → Quest
quest_for server setting job = record { own = server.own; target = target_of job; policy = server.policy; kind = kind_of job; family = Four; timeout = setting.timeout; sealed = server.sealed; read_only = false; proof = server.proof }

-- the contacts that it begins with: the k closest of the table (Kademlia, 2002, section 2.3)
abbrev pub seeds_for : ServeSetting → TableState → Job → List Contact
seeds_for server table job = k_closest (target_of job) server.k (contacts_of table)

-- as events are read for it
abbrev pub reads_for : ServeSetting → ManySetting → Job → List Entry → Whose
reads_for server setting job journal = record { setting = setting_for server setting job; quest = quest_for server setting job; journal = journal }

-- and all of them
abbrev pub all_read : ServeSetting → ManySetting → List Job → List (List Entry) → List Whose
all_read server setting [] journals = []
all_read server setting (t ∷ ts) [] = []
all_read server setting (t ∷ ts) (j ∷ js) = reads_for server setting t j ∷ all_read server setting ts js

-- a legal journal that begins with these contacts
pub record IsJournalFor (server : ServeSetting) (setting : ManySetting) (before : TableState) (job : Job) (journal : List Entry) : Type 0 where
  pub legal : Legal (setting_for server setting job) journal
  pub seeds_are : seeds journal ≡ seeded setting.per_address setting.paths (seeds_for server before job)

-- What it found: all its paths have run out. The peers are each there once, in order, and where only contacts are asked for
-- nothing else was gathered.
pub record IsFound (server : ServeSetting) (setting : ManySetting) (before : TableState) (job : Job) (one : One) : Type 0 where
  pub journal : IsJournalFor server setting before job one.journal
  pub run_out : (p : ℕ) → p < setting.paths → RunOut (setting_for server setting job) p one.journal
  pub found : one.found ≡ result_of (setting_for server setting job) one.journal
  pub counted : Counted one.journal one.counts
  pub own_answers : GoesByOwnAnswers (setting_for server setting job) one.journal
  pub in_order : IsStrictlySortedBy addr_cmp one.peers
  pub bare : kind_of job ≡ FindNode → (one.peers ≡ []) × (one.tokens ≡ []) × (one.items ≡ [])

-- ---- all of them

-- what they share
abbrev pub frame_for : Accepts → Tags → ServeSetting → WordsState → Lasting → List FollowUp → Frame
frame_for accepts tags server words lasting follows = record { accepts = accepts; tags = tags; server = server; seed = words.seed; place = words.place; wanted = lasting.receives; minutes = lasting.minutes; follows = follows }

-- the call for the seeds of a lookup, and its reply
abbrev pub seeks : ServeSetting → TableState → Job → Did
seeks server table job = on_table (Closest (target_of job) server.k) (Listed (seeds_for server table job))

-- all calls of the driver: first those for the seeds, in order; then, in some order, those that the foreign datagrams made and one
-- for each contact that was lost by its deadline, both as the events are read
abbrev pub driver_calls : ServeSetting → TableState → List Job → List Errand → List Did
driver_calls server table jobs errands = map (seeks server table) jobs ++ map did_of errands

-- these are what is read of the events
pub record AreErrands (read : Reading) (errands : List Errand) : Type 0 where
  pub answers : flat_map answer_in errands ≡ read.did
  pub losses : flat_map loss_in errands ≡ read.lost

-- each found just what it heard the answers give beside contacts
abbrev pub AllGather : List Whose → List Mine → List One → Type 0
AllGather [] [] [] = Unit {0}
AllGather [] [] (one ∷ ones) = ⊥
AllGather [] (m ∷ ms) ones = ⊥
AllGather (w ∷ ws) [] ones = ⊥
AllGather (w ∷ ws) (m ∷ ms) [] = ⊥
AllGather (w ∷ ws) (m ∷ ms) (one ∷ ones) = GathersOf w.quest.kind m.heard one.peers one.tokens one.items × AllGather ws ms ones

-- how often a number is among these
abbrev pub how_often : ℕ → List ℕ → ℕ
how_often i ns = length (filter (λ n. nat_eq n i) ns)

-- so many follow-ups of each lookup were sent, the first of which has this number
abbrev pub AreSent : List ℕ → ℕ → List One → Type 0
AreSent told i [] = Unit {0}
AreSent told i (o ∷ os) = (o.sent ≡ how_often i told) × AreSent told (suc i) os

-- the events tell all journals and all that was gathered, so many datagrams came, so many replies were sent, and so many follow-ups
-- of each lookup
pub record ManyTold (f : Frame) (ws : List Whose) (read : Reading) (ones : List One) (received replied : ℕ) (events : List Event) : Type 0 where
  pub tell : ManyTell f ws events read
  pub gathers : AllGather ws tell.end.each ones
  pub received_are : received ≡ tell.end.got
  pub replied_are : replied ≡ tell.end.replied
  pub sent_are : AreSent read.told 0 ones

abbrev pub journals_of : List One → List (List Entry)
journals_of ones = map (λ one. one.journal) ones

-- how many contacts all journals lost to refused sends
abbrev pub unsent_in_all : List (List Entry) → ℕ
unsent_in_all [] = 0
unsent_in_all (J ∷ Js) = length (unsent J) + unsent_in_all Js

-- the link counted each of them, and perhaps replies that it refused
pub record CountsUnsent (Js : List (List Entry)) (before after : ℕ) : Type 0 where
  pub counted : IsCounted (unsent_in_all Js) before after
  pub no_less : before ≤ after

-- all calls on the peers and on the items are the driver's: no lookup makes any
pub record AreOfDriver (n : ℕ) (before after : TableState) (ran : Ran n before after) : Type 0 where
  pub stores : All (λ m. m.role ≡ 0) ran.stores
  pub shelves : All (λ m. m.role ≡ 0) ran.shelves

-- What several lookups did. Role 0 of the table's turn is the driver's, and role i + 1 that of the lookup i, which told it of the
-- contacts that its journal notes, in order.
pub record ManyLooked (accepts : Accepts) (tags : Tags) (server : ServeSetting) (setting : ManySetting) (jobs : List Job) (lasting : Lasting) (before after : TableState) (words words' : WordsState) (told told' : Option (List Event)) (many : Many) : Type 0 where
  pub each : AllZip (IsFound server setting before) jobs many.outcomes
  pub read : Reading
  pub owners_are : many.owners ≡ read.owners
  -- the follow-ups, which went out in this order: those of each job, by what it found and the tokens that it was given
  pub follows : List FollowUp
  pub follows_are : follows ≡ follow_ups server.own 0 jobs many.outcomes
  pub tells : Grows told told' (ManyTold (frame_for accepts tags server words lasting follows) (all_read server setting jobs (journals_of many.outcomes)) read many.outcomes many.received many.replied)
  pub drawn : words' ≡ drawn_by words read.owners
  pub ran : Ran (suc (length jobs)) before after
  pub memory : HadAllMemory (suc (length jobs)) before after ran
  pub errands : List Errand
  pub are : AreErrands read errands
  pub driver : AreCalls (suc (length jobs)) before after ran 0 (driver_calls server before jobs errands)
  pub of_driver : AreOfDriver (suc (length jobs)) before after ran
  pub workers : (i : ℕ) (d : One) → i < length jobs → calls_in (calls_of (suc i) ran.tables) ≡ seen_calls (noted (slice_index_or many.outcomes i d).journal)

-- ---- ended early

-- The events tell the journals so far; or they do without the last one, where that is a datagram and no receive failed. Follow-ups
-- went out only of those that the jobs owe, by the journals and by what each heard.
pub record TellsEarly (fault : ManyFault) (own : Id) (jobs : List Job) (f : Frame) (ws : List Whose) (read : Reading) (events : List Event) : Type 0 where
  pub front : List Event
  pub end : Shown
  pub so_far : ManyTellSoFar f ws front read end
  pub owed : (end.followed ≡ 0) ⊎ (f.follows ≡ follows_read own 0 jobs ws end.each)
  pub whole : (events ≡ front) ⊎ ((fault ≢ LinkFault) × (from : Addr) × (bytes : List ℕ) × (until : ℕ) × (at : ℕ) × (events ≡ front ++ Got from bytes until at ∷ []))

-- some of it was done: there are legal journals with these seeds
pub record ManyBegan (accepts : Accepts) (tags : Tags) (server : ServeSetting) (setting : ManySetting) (jobs : List Job) (lasting : Lasting) (before after : TableState) (words words' : WordsState) (told told' : Option (List Event)) (fault : ManyFault) : Type 0 where
  pub journals : List (List Entry)
  pub each : AllZip (IsJournalFor server setting before) jobs journals
  pub read : Reading
  pub follows : List FollowUp
  pub tells : Grows told told' (TellsEarly fault server.own jobs (frame_for accepts tags server words lasting follows) (all_read server setting jobs journals) read)
  pub strays : fault ≡ Strays → Grows told told' (λ events. EndsAtForeign (frame_for accepts tags server words lasting follows) (all_read server setting jobs journals) events read max_strays)
  pub drawn : words' ≡ drawn_by words read.owners
  pub ran : Ran (suc (length jobs)) before after
  pub errands : List Errand
  pub are : AreErrands read errands
  pub driver : AreFirstCalls (suc (length jobs)) before after ran 0 (driver_calls server before jobs errands)
  pub of_driver : AreOfDriver (suc (length jobs)) before after ran

-- there was no memory to begin: the table is as it was
pub record NoneBegan (before after : TableState) (words words' : WordsState) (told told' : Option (List Event)) (fault : ManyFault) : Type 0 where
  pub fault_is : fault ≡ NoMemory
  pub no_events : Grows told told' (λ events. events ≡ [])
  pub same_words : words' ≡ words
  pub same_table : after ≡ before

-- the lookups ended early
abbrev pub ManyStopped : Accepts → Tags → ServeSetting → ManySetting → List Job → Lasting → TableState → TableState → WordsState → WordsState → Option (List Event) → Option (List Event) → ManyFault → Type 0
ManyStopped accepts tags server setting jobs lasting before after words words' told told' fault =
    ManyBegan accepts tags server setting jobs lasting before after words words' told told' fault
    ⊎ NoneBegan before after words words' told told' fault
