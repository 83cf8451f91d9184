-- Eviction pings of a whole routing table (Kademlia, 2002, section 2.2: a bucket's least recently seen contact is pinged,
-- and who doesn't answer makes room): what the transcript of a link tells of the pings, and the table that results. That a
-- contact is pinged twice before it goes, that all buckets are gone through in one call, and that all live contacts of a bucket
-- may be, is this project's own.
use Rattle.std.specs.Prelude.{◌≡◌, ◌≢◌, ◌⊎◌, ℕ, ◌+◌, ◌<◌, ◌≤◌, List, [], ◌∷◌, ◌++◌, take, drop, flat_map, Option, Some, None, Bool, true, false, not, ◌&&◌}
use Rattle.kad_base.specs.declared.types.Id.{Id}
use Rattle.kad_base.specs.declared.types.Addr.{Addr}
use Rattle.kad_base.specs.declared.types.Contact.{Contact}
use Rattle.kad_base.specs.declared.types.Event.{Event}
use Rattle.kad_base.specs.declared.types.Event.TheVariants.{Now, Sent, Unsent, Got, Quiet}
use Rattle.kad_base.specs.Limits.{max_strays}
use Rattle.kad_base.specs.Words.{word, word_bytes}
use Rattle.kad_krpc.specs.declared.message.Message.{Message}
use Rattle.kad_krpc.specs.declared.message.Message.TheVariants as message
use Rattle.kad_krpc.specs.declared.message.Ask.TheVariants.{Ping}
use Rattle.kad_krpc.specs.Form.{form}
use Rattle.query_book.specs.declared.Query.{Query}
use Rattle.bucket_tree.specs.declared.types.Gone.{Gone}
use Rattle.bucket_tree.specs.declared.types.Gone.TheVariants.{Kept}
use Rattle.bucket_tree.specs.Rows.{RowState, live_in}
use Rattle.contact_table.specs.declared.calls.TableCall.TheVariants.{Seen as Seen_call, Failed}
use Rattle.contact_table.specs.declared.calls.TableReply.{TableReply}
use Rattle.contact_table.specs.declared.calls.TableReply.TheVariants.{Gone as Gone_reply, NoMemory}
use Rattle.contact_table.specs.TableState.{TableState}
use Rattle.contact_table.specs.TableStep.{TableStep, table_after}
use Rattle.lookup_core.specs.Matching.{IsReplyTo}
use Rattle.lookup_core.specs.Reply.{Reply}
use Rattle.lookup_core.specs.Reply as reply
use Rattle.lookup_core.specs.Sealed.{Accepts}
use Rattle.lookup_core.specs.Timeouts.{deadline_of}
use Rattle.table_refresh.specs.declared.types.RefreshSetting.{RefreshSetting}
use Rattle.table_refresh.specs.declared.types.RefreshFault.{RefreshFault}
use Rattle.table_refresh.specs.declared.types.RefreshFault.TheVariants.{LinkFault, Strays, NoMemory}

-- what a refresh goes by: whose table it is, how long a try waits, in milliseconds, whether a reply has to carry a tag,
-- whether it pings all live contacts of a row, which tags are accepted, and the seed of the words that are drawn
pub record Given : Type 0 where
  pub own : Id
  pub timeout : ℕ
  pub sealed : Bool
  pub all : Bool
  pub accepts : Accepts
  pub seed : List ℕ

abbrev pub goes_by : TableState → RefreshSetting → Accepts → List ℕ → Given
goes_by table setting accepts seed = record { own = table.own; timeout = setting.timeout; sealed = setting.sealed; all = setting.all; accepts = accepts; seed = seed }

-- ---- whom it pings

-- the head of a row: its least recently seen live contact, where it has one
abbrev pub head_in : RowState → List Contact
head_in row = take 1 (live_in row)

-- of a row: all its live contacts, the least recently seen first, or its head alone
abbrev pub pinged_in : Bool → RowState → List Contact
pinged_in true row = live_in row
pinged_in false row = head_in row

-- of all rows, in their order
abbrev pub pinged_of : Bool → List RowState → List Contact
pinged_of all rows = flat_map (pinged_in all) rows

-- the ping (BEP 5), read-only (BEP 43), under the transaction id that is the bytes of a word
abbrev pub ping : Id → ℕ → Message
ping own tx = message.Query (word_bytes tx) true None (Ping own)

-- ---- what replies to a ping

-- the contact answers: an answer with its identifier
abbrev pub Answers : Contact → Reply → Type 0
Answers c (reply.Answer answer) = answer.id ≡ c.id
Answers c (reply.Error code) = ⊥

-- the datagram is matched with the open ping as a lookup matches one with an open query
abbrev pub IsMatched : Bool → Accepts → Query → Addr → List ℕ → Reply → Type 0
IsMatched sealed accepts q from bytes r = IsReplyTo sealed accepts bytes from q r

-- any other is a stray
abbrev pub IsStray : Bool → Accepts → Query → Addr → List ℕ → Type 0
IsStray sealed accepts q from bytes = (r : Reply) → ¬ IsMatched sealed accepts q from bytes r

-- ---- what the events show, and the table so far

pub record Standing : Type 0 where
  -- the last told moment
  pub moment : ℕ
  -- the place of the next word
  pub place : ℕ
  -- how many datagrams were strays
  pub strays : ℕ
  -- the contacts whose tries are not over, in order
  pub due : List Contact
  -- whether the first of them has failed a first try, and was kept
  pub again : Bool
  -- the ping that waits for its reply
  pub waits : Option Query
  pub table : TableState

-- ---- what a try does to the table

abbrev pub is_kept : Gone → Bool
is_kept Kept = true
is_kept other = false

-- the contacts that are left after a try: all, if the first of them is pinged again
abbrev pub left_after : Bool → List Contact → List Contact
left_after true due = due
left_after false due = drop 1 due

-- the try is over; a contact that was kept at its first try is pinged again
abbrev pub over : Standing → Bool → TableState → Standing
over s kept table = record s { due = left_after (kept && not s.again) s.due; again = kept && not s.again; waits = None; table = table }

-- the table was told that the contact was seen (Kademlia, section 2.2), and had memory
pub record IsSeen (c : Contact) (table table' : TableState) : Type 0 where
  pub reply : TableReply
  pub step : TableStep table 0 (Seen_call c) reply
  pub kept : reply ≢ NoMemory
  pub after : table' ≡ table_after table 0 (Seen_call c) reply

-- the contact has failed, and this became of it
pub record HasFailed (c : Contact) (gone : Gone) (table table' : TableState) : Type 0 where
  pub step : TableStep table 0 (Failed c) (Gone_reply gone)
  pub after : table' ≡ table_after table 0 (Failed c) (Gone_reply gone)

-- a try whose contact answered
pub record Succeeds (s : Standing) (head : Contact) (t : Standing) : Type 0 where
  pub table : TableState
  pub seen : IsSeen head s.table table
  pub after : t ≡ over s false table

-- a try whose contact didn't
pub record Fails (s : Standing) (head : Contact) (t : Standing) : Type 0 where
  pub table : TableState
  pub gone : Gone
  pub failed : HasFailed head gone s.table table
  pub after : t ≡ over s (is_kept gone) table

-- ---- what each event gives

-- a ping of the first contact that is left, under the next word, while none waits
pub record Pings (g : Given) (s : Standing) (to : Addr) (bytes : List ℕ) (head : Contact) : Type 0 where
  pub rest : List Contact
  pub due : s.due ≡ head ∷ rest
  pub none_waits : s.waits ≡ None
  pub address : to ≡ head.addr
  pub form : bytes ≡ form (ping g.own (word g.seed s.place))

-- one that was sent waits for its reply until its deadline
pub record SentGives (g : Given) (s : Standing) (to : Addr) (bytes : List ℕ) (t : Standing) : Type 0 where
  pub head : Contact
  pub pings : Pings g s to bytes head
  pub after : t ≡ record s { place = s.place + 1; waits = Some (record { tx = word g.seed s.place; contact = head; deadline = deadline_of s.moment g.timeout }) }

-- one that could not be sent is a whole try
pub record UnsentGives (g : Given) (s : Standing) (to : Addr) (bytes : List ℕ) (t : Standing) : Type 0 where
  pub head : Contact
  pub pings : Pings g s to bytes head
  pub fails : Fails (record s { place = s.place + 1 }) head t

-- no reply: the try is over where the moment is at or past the deadline, and goes on before
abbrev pub NoReply : Standing → Query → ℕ → Standing → Type 0
NoReply s q at t = ((at < q.deadline) × (t ≡ s)) ⊎ ((q.deadline ≤ at) × Fails s q.contact t)

-- a reply ends the try
abbrev pub ReplyGives : Standing → Query → Reply → Standing → Type 0
ReplyGives s q said t = (Answers q.contact said × Succeeds s q.contact t) ⊎ ((¬ Answers q.contact said) × Fails s q.contact t)

-- a datagram that is matched
pub record MatchGives (g : Given) (s : Standing) (q : Query) (from : Addr) (bytes : List ℕ) (at : ℕ) (t : Standing) : Type 0 where
  pub said : Reply
  pub matched : IsMatched g.sealed g.accepts q from bytes said
  pub gives : ReplyGives (record s { moment = at }) q said t

-- a stray
pub record StrayGives (g : Given) (s : Standing) (q : Query) (from : Addr) (bytes : List ℕ) (at : ℕ) (t : Standing) : Type 0 where
  pub stray : IsStray g.sealed g.accepts q from bytes
  pub gives : NoReply (record s { moment = at; strays = s.strays + 1 }) q at t

abbrev pub GotGives : Given → Standing → Query → Addr → List ℕ → ℕ → Standing → Type 0
GotGives g s q from bytes at t = MatchGives g s q from bytes at t ⊎ StrayGives g s q from bytes at t

-- a receive is made while a ping waits, and waits until its deadline
pub record Receives (s : Standing) (q : Query) (until : ℕ) : Type 0 where
  pub waits : s.waits ≡ Some q
  pub until_is : until ≡ q.deadline

-- what one event gives; a refresh asks for the moment before anything else, and never again
abbrev pub Gives : Given → Standing → Event → Standing → Type 0
Gives g s (Now at) t = ⊥
Gives g s (Sent to bytes) t = SentGives g s to bytes t
Gives g s (Unsent to bytes) t = UnsentGives g s to bytes t
Gives g s (Got from bytes until at) t = (q : Query) × Receives s q until × GotGives g s q from bytes at t
Gives g s (Quiet until at) t = (q : Query) × Receives s q until × NoReply (record s { moment = at }) q at t

-- what events give, one after another, up to what they show then
abbrev pub TellsFrom : Given → Standing → List Event → Standing → Type 0
TellsFrom g s [] t = t ≡ s
TellsFrom g s (e ∷ es) t = (mid : Standing) × Gives g s e mid × TellsFrom g mid es t

-- ---- a whole refresh

-- after the first event, which tells the moment
abbrev pub begun : Given → TableState → ℕ → ℕ → Standing
begun g table place at = record { moment = at; place = place; strays = 0; due = pinged_of g.all table.rows; again = false; waits = None; table = table }

-- the events of a refresh of the table whose words begin at that place, up to what they show then
abbrev pub Tells : Given → TableState → ℕ → List Event → Standing → Type 0
Tells g table place [] end = ⊥
Tells g table place (Now at ∷ rest) end = TellsFrom g (begun g table place at) rest end
Tells g table place other end = ⊥

-- The refresh of a table: its events tell one moment, and then the tries of each contact that it pings, in order; the table
-- that comes back is that after their steps, and each word that was drawn went to one ping.
pub record Refreshed (g : Given) (table : TableState) (place : ℕ) (table' : TableState) (place' : ℕ) (events : List Event) : Type 0 where
  pub end : Standing
  pub tells : Tells g table place events end
  pub all_pinged : end.due ≡ []
  pub none_waits : end.waits ≡ None
  pub few_strays : end.strays < max_strays
  pub table_is : table' ≡ end.table
  pub place_is : place' ≡ end.place

-- ---- a refresh that ended early

-- the last event, a datagram that came while the ping waited, and replied to it, whatever its tag is
pub record StopsAtReply (accepts : Accepts) (q : Query) (last : List Event) : Type 0 where
  pub from : Addr
  pub bytes : List ℕ
  pub at : ℕ
  pub is : last ≡ Got from bytes q.deadline at ∷ []
  pub said : Reply
  pub replies : IsMatched false accepts q from bytes said

-- the last event, the last stray that a refresh takes
pub record StopsAtStray (sealed : Bool) (accepts : Accepts) (q : Query) (strays : ℕ) (last : List Event) : Type 0 where
  pub from : Addr
  pub bytes : List ℕ
  pub at : ℕ
  pub is : last ≡ Got from bytes q.deadline at ∷ []
  pub stray : IsStray sealed accepts q from bytes
  pub number : strays + 1 ≡ max_strays

-- the events behind those that were taken, while this ping waited and there were so many strays before: none at a receive
-- that failed, the last stray that a refresh takes, or a reply for which there was no memory; so where no tag is asked for, that
-- is no stray
abbrev pub Stops : Bool → Accepts → Query → ℕ → RefreshFault → List Event → Type 0
Stops sealed accepts q strays LinkFault last = last ≡ []
Stops sealed accepts q strays Strays last = StopsAtStray sealed accepts q strays last
Stops sealed accepts q strays NoMemory last = StopsAtReply accepts q last

-- the events from here on end by a fault, while a ping waited; table and place are those after what was taken
pub record EndsBy (g : Given) (s : Standing) (fault : RefreshFault) (table' : TableState) (place' : ℕ) (events : List Event) : Type 0 where
  pub front : List Event
  pub last : List Event
  pub end : Standing
  pub query : Query
  pub events_are : events ≡ front ++ last
  pub tells : TellsFrom g s front end
  pub waits : end.waits ≡ Some query
  pub few_strays : end.strays < max_strays
  pub stops : Stops g.sealed g.accepts query end.strays fault last
  pub table_is : table' ≡ end.table
  pub place_is : place' ≡ end.place

-- the same of all events of a refresh
abbrev pub EndsEarly : Given → TableState → ℕ → RefreshFault → TableState → ℕ → List Event → Type 0
EndsEarly g table place fault table' place' [] = ⊥
EndsEarly g table place fault table' place' (Now at ∷ rest) = EndsBy g (begun g table place at) fault table' place' rest
EndsEarly g table place fault table' place' other = ⊥

-- there was no memory for the contacts to ping: nothing happened
pub record IsUntouched (table : TableState) (place : ℕ) (fault : RefreshFault) (table' : TableState) (place' : ℕ) (events : List Event) : Type 0 where
  pub no_memory : fault ≡ NoMemory
  pub no_events : events ≡ []
  pub same_table : table' ≡ table
  pub same_place : place' ≡ place

abbrev pub Unfinished : Given → TableState → ℕ → RefreshFault → TableState → ℕ → List Event → Type 0
Unfinished g table place fault table' place' events = IsUntouched table place fault table' place' events ⊎ EndsEarly g table place fault table' place' events
