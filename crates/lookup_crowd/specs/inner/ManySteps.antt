-- What each step of the driver owes.
use Rattle.std.specs.Prelude.{◌≡◌, ◌≢◌, ◌⊎◌, ℕ, zero, suc, ◌+◌, ◌-◌, ◌*◌, ◌^◌, ◌<◌, ◌≤◌, List, [], ◌∷◌, ◌++◌, length, map, filter, take, min, slice_get, Any, Option, Some, None, Bool, true, false}
use Rattle.std.specs.List.{All, AllByRecursion, AllZip, flat_map}
use Rattle.kad_base.specs.declared.types.Addr.{Addr}
use Rattle.kad_base.specs.declared.types.Contact.{Contact}
use Rattle.kad_base.specs.declared.types.Event.{Event}
use Rattle.kad_base.specs.declared.types.Event.TheVariants.{Got, Sent, Unsent}
use Rattle.kad_base.specs.declared.serial.Made.{Made}
use Rattle.kad_base.specs.Limits.{max_lookups, max_strays, max_round_receives, max_open, max_paths, max_path_contacts}
use Rattle.kad_base.specs.Outside.{Grows}
use Rattle.kad_base.specs.Words.{word}
use Rattle.kad_krpc.specs.Form.{form}
use Rattle.id_puzzles.specs.Drawn.{WordsState}
use Rattle.query_book.specs.declared.Query.{Query}
use Rattle.claim_book.specs.declared.types.Cause.TheVariants.{SendFault}
use Rattle.turn_book.specs.Turns.{TurnState, mine}
use Rattle.contact_table.specs.TableState.{TableState}
use Rattle.contact_table.specs.declared.calls.TableCall.{TableCall}
use Rattle.contact_table.specs.declared.calls.TableReply.{TableReply}
use Rattle.contact_table.specs.Told.{HasMemory, calls_in, seen_calls}
use Rattle.claim_book.specs.declared.types.Entry.{Entry}
use Rattle.claim_book.specs.declared.types.Entry.TheVariants.{Lost}
use Rattle.claim_book.specs.Journal.{seeds, asked, may_ask}
use Rattle.claim_book.specs.Calls.{asker}
use Rattle.claim_book.specs.RunOut.{RunOut}
use Rattle.claim_book.specs.State.{added}
use Rattle.lookup_core.specs.declared.ask.Asked.{Asked}
use Rattle.lookup_core.specs.declared.state.Lookup.{Lookup}
use Rattle.lookup_core.specs.Quest.{query_message}
use Rattle.lookup_core.specs.Reply.{Reply, Said, Answered}
use Rattle.lookup_core.specs.declared.on_reply.Taken.{Taken}
use Rattle.lookup_core.specs.Gathered.{KeepsFor}
use Rattle.lookup_core.specs.LookupSteps.{AsksNext, LosesOverdue, IsPlaceOf, HearsAt, IsMatch, RepliesToNone, handed}
pub use Rattle.lookup_core.specs.Receiving.{IsSoonest}
use Rattle.lookup_core.specs.Sealed.{Accepts}
use Rattle.lookup_core.specs.Timeouts.{deadline_of, is_overdue}
use Rattle.node_serve.specs.declared.setting.ServeSetting.{ServeSetting}
use Rattle.node_serve.specs.Calls.{Did}
use Rattle.node_serve.specs.Receives.{tried}
use Rattle.node_serve.specs.Lasting.{is_over, waits_to}
use Rattle.node_serve.specs.Sealing.{Tags}
use Rattle.serve_crew.specs.Hands.{Hands, Grew, SameHands, SamePass}
use Rattle.serve_crew.specs.declared.desk.Desk.{Desk}
use Rattle.lookup_crowd.specs.declared.seeker.Seeker.{Seeker}
use Rattle.lookup_crowd.specs.declared.seeker.Progress.{Progress}
use Rattle.lookup_crowd.specs.declared.seeker.ManyFault.{ManyFault}
use Rattle.lookup_crowd.specs.declared.seeker.ManyFault.TheVariants.{LinkFault}
use Rattle.lookup_crowd.specs.Errands.{noted}
use Rattle.lookup_crowd.specs.Many.{Frame, Owed, Reading, Owes, WaitsUntil, IsForeign, goes_on, open_of}
use Rattle.lookup_crowd.specs.Mine.{driven}
use Rattle.lookup_crowd.specs.inner.Crowd.{whose, opens, Holding, IsLegal, NoneAsks, NothingLeft, Longer, DrivenOn, OnlyHeard, SameSeat, asks_of, queries_of, ManyShow, Ran, Stand, IsFrame, Advances}

-- ---- a datagram

-- the lookup matches it, and keeps what it heard
pub record IsMatchFor (accepts : Accepts) (from : Addr) (bytes : List ℕ) (old new : Seeker) : Type 0 where
  pub heard : List Answered
  pub matches : IsMatch old.quest accepts from bytes old.lookup new.lookup heard
  pub gathers : KeepsFor old.quest.kind heard old.gathered new.gathered
  pub quest : new.quest ≡ old.quest
  pub holds : Holding new
  pub seat : SameSeat old new

-- it replies to none of the lookup's open queries
abbrev pub IsNotFor : Accepts → Addr → List ℕ → Seeker → Type 0
IsNotFor accepts from bytes k = RepliesToNone k.quest accepts from bytes k.lookup

-- none of its queries was sent to that address
abbrev pub IsUnasked : Addr → Seeker → Type 0
IsUnasked from k = ¬ Any (λ q. q.contact.addr ≡ from) k.lookup.queries

-- the first that has an open query which the reply is to, and that query's place
pub record FirstWaits (accepts : Accepts) (from : Addr) (bytes : List ℕ) (said : Said) (ks : List Seeker) (found : ℕ × ℕ) : Type 0 where
  pub one : Seeker
  pub here : slice_get ks found.0 ≡ Some one
  pub none_before : AllByRecursion (λ k. IsNotFor accepts from bytes k) (take found.0 ks)
  pub waits : IsPlaceOf one.quest accepts from bytes said one.lookup found.1

-- it hears the reply at that place, and keeps what was heard
pub record Hears (place : ℕ) (r : Reply) (old new : Seeker) : Type 0 where
  pub out : Taken
  pub hears : HearsAt old.quest place r old.lookup new.lookup out
  pub gathers : KeepsFor old.quest.kind (handed out) old.gathered new.gathered
  pub quest : new.quest ≡ old.quest
  pub holds : Holding new

-- the first that it replies to takes it, and all others are as they were
pub record TakesFirst (accepts : Accepts) (from : Addr) (bytes : List ℕ) (old new : List Seeker) : Type 0 where
  pub before : List Seeker
  pub one : Seeker
  pub behind : List Seeker
  pub after : Seeker
  pub were : old ≡ before ++ one ∷ behind
  pub none_before : AllByRecursion (λ k. IsNotFor accepts from bytes k) before
  pub takes : IsMatchFor accepts from bytes one after
  pub are : new ≡ before ++ after ∷ behind

-- or it is for none, and nothing changed
abbrev pub Takes : Accepts → Addr → List ℕ → List Seeker → List Seeker → Bool → Type 0
Takes accepts from bytes old new true = TakesFirst accepts from bytes old new
Takes accepts from bytes old new false = AllByRecursion (λ k. IsNotFor accepts from bytes k) old × (new ≡ old)

-- ---- what is overdue

-- those overdue at the moment are lost, oldest first
pub record Expires (at : ℕ) (old new : Seeker) : Type 0 where
  pub loses : LosesOverdue at old.lookup new.lookup
  pub gathered : new.gathered ≡ old.gathered
  pub quest : new.quest ≡ old.quest
  pub holds : Holding new
  pub seat : SameSeat old new

-- whom the lookup loses
abbrev pub lapsed : ℕ → Seeker → List Contact
lapsed at k = map (λ q. q.contact) (filter (is_overdue at) (opens k))

-- whom all lose, one after another
abbrev pub all_lapsed : ℕ → List Seeker → List Contact
all_lapsed at ks = flat_map (lapsed at) ks

-- ---- how long a receive waits

-- the earlier of two moments that may be missing
abbrev pub sooner_of : Option ℕ → Option ℕ → Option ℕ
sooner_of None b = b
sooner_of (Some a) None = Some a
sooner_of (Some a) (Some b) = Some (min a b)

-- the lookup asks and waits for nothing more
pub record IsRunOut (k : Seeker) : Type 0 where
  pub run_out : (p : ℕ) → p < k.lookup.book.setting.paths → RunOut k.lookup.book.setting p k.lookup.book.journal

-- by whether some query is open
pub data WaitsFor (ks : List Seeker) (progress : Progress) (until : ℕ) (busy : Bool) : Type 0 where
  for_replies : busy ≡ true → queries_of ks ≢ [] → WaitsUntil progress.receives progress.moment (map (λ q. q.deadline) (queries_of ks)) until → progress.foreign < max_strays → WaitsFor ks progress until busy
  for_follow_ups : busy ≡ false → queries_of ks ≡ [] → AllByRecursion IsRunOut ks → progress.receives ≢ 0 → until ≡ progress.moment → WaitsFor ks progress until busy
  for_others : busy ≡ false → queries_of ks ≡ [] → AllByRecursion IsRunOut ks → progress.unsaid ≡ 0 → progress.receives ≡ 0 → 0 < progress.left → is_over progress.end progress.moment ≡ false → until ≡ waits_to progress.end progress.moment → WaitsFor ks progress until busy

-- the most asks of all lookups: sixteen at most, each of which asks no contact twice, nor more than its paths have
abbrev pub max_all_asks : ℕ
max_all_asks = max_lookups * (max_paths * max_path_contacts)

-- Each datagram that came was foreign or closed a query, and no reply was sent without one.
pub record HasCounted (ks : List Seeker) (progress : Progress) : Type 0 where
  pub received : progress.received + length (queries_of ks) ≤ progress.foreign + asks_of ks
  pub replied : progress.replied ≤ progress.received
  pub asks : asks_of ks ≤ max_all_asks

-- a receive may be made until then
pub record MayReceive (ks : List Seeker) (progress : Progress) (until : ℕ) (busy : Bool) : Type 0 where
  pub holds : AllByRecursion Holding ks
  pub waits : WaitsFor ks progress until busy
  pub in_turn : progress.receives ≡ 0 → AllByRecursion NoneAsks ks
  pub few_receives : progress.receives < max_round_receives
  pub room : progress.foreign + max_all_asks + 1 < 2 ^ 64
  pub counted : HasCounted ks progress

-- ---- a receive

-- one foreign datagram more; while a query is open it isn't the last that is taken
abbrev pub Counts : Bool → Progress → Progress → Type 0
Counts busy old new = (new ≡ record old { foreign = old.foreign + 1 }) × (busy ≡ true → new.foreign < max_strays)

-- what a length says is owed: so many bytes, to the source
abbrev pub owed_in : Option ℕ → Addr → List ℕ → Option Owed
owed_in None from out = None
owed_in (Some n) from out = Some (record { to = from; reply = take n out })

-- a foreign datagram was answered
pub record Answers (tags : Tags) (server : ServeSetting) (from : Addr) (bytes : List ℕ) (at : ℕ) (owed : Option Owed) (old new : Hands) : Type 0 where
  pub did : List Did
  pub owes : Owes tags server from bytes at did owed
  pub grew : Grew old new did
  pub same : SameHands old new

-- the datagram was for a lookup, or is foreign: then it is counted and answered
pub data Handles (accepts : Accepts) (tags : Tags) (server : ServeSetting) (busy : Bool) (from : Addr) (bytes : List ℕ) (at : ℕ) (old new : List Seeker) (progress progress' : Progress) (host host' : Hands) (owed : Option Owed) : Type 0 where
  is_taken : TakesFirst accepts from bytes old new → progress' ≡ progress → host' ≡ host → owed ≡ None → Handles accepts tags server busy from bytes at old new progress progress' host host' owed
  is_foreign : AllByRecursion (λ k. IsNotFor accepts from bytes k) old → new ≡ old → Counts busy progress progress' → Answers tags server from bytes at owed host host'
      → Handles accepts tags server busy from bytes at old new progress progress' host host' owed

-- a datagram came at that moment: it was handled, and then all lost who was overdue
pub record Comes (accepts : Accepts) (tags : Tags) (server : ServeSetting) (busy : Bool) (from : Addr) (bytes : List ℕ) (at : ℕ) (old new : List Seeker) (progress progress' : Progress) (host host' : Hands) (owed : Option Owed) : Type 0 where
  pub mid : List Seeker
  pub counted : Progress
  pub between : Hands
  pub handles : Handles accepts tags server busy from bytes at old mid progress counted host between owed
  pub expires : AllZip (Expires at) mid new
  pub ran : Ran between host' [] (all_lapsed at mid)
  pub progress_is : progress' ≡ record { moment = at; receives = goes_on progress.receives (length (queries_of new)); foreign = counted.foreign; left = progress.left - 1; end = progress.end; received = progress.received + 1; replied = progress.replied; unsaid = progress.unsaid }

-- no datagram came: all lost who was overdue, and the round is over
pub record Passes (at : ℕ) (old new : List Seeker) (progress progress' : Progress) (host host' : Hands) : Type 0 where
  pub expires : AllZip (Expires at) old new
  pub ran : Ran host host' [] (all_lapsed at old)
  pub progress_is : progress' ≡ record { moment = at; receives = 0; foreign = progress.foreign; left = progress.left - 1; end = progress.end; received = progress.received; replied = progress.replied; unsaid = progress.unsaid }

-- what is owed was sent, or the link refused it; nothing is sent where nothing is owed
abbrev pub Pays : Option Owed → Bool → List Event → Type 0
Pays None was_sent events = (was_sent ≡ false) × (events ≡ [])
Pays (Some owed) was_sent events = events ≡ tried was_sent owed.to owed.reply ∷ []

-- one reply more, where it was sent
abbrev pub after_paid : Progress → Bool → Progress
after_paid progress true = record progress { replied = progress.replied + 1 }
after_paid progress false = progress

-- the worker's passes are of the turns of the desk, in the role of the driver
pub record IsOfDesk (desk : Desk) (host : Hands) : Type 0 where
  pub driver : host.table.role ≡ 0
  pub table : host.table.turn ≡ desk.turns.now.table.id
  pub peers : host.peers.turn ≡ desk.turns.now.peers.id
  pub items : host.items.turn ≡ desk.turns.now.items.id

-- the last foreign datagram that is taken while a query is open
pub record IsLastForeign (accepts : Accepts) (from : Addr) (bytes : List ℕ) (busy : Bool) (ks : List Seeker) (progress : Progress) : Type 0 where
  pub none : AllByRecursion (λ k. IsNotFor accepts from bytes k) ks
  pub is_open : busy ≡ true
  pub last : progress.foreign + 1 ≡ max_strays

-- what a receive leaves, beside what it told
pub record Received (busy : Bool) (old new : List Seeker) (progress progress' : Progress) : Type 0 where
  pub holds : AllByRecursion Holding new
  pub longer : AllZip Longer old new
  pub only_heard : AllZip OnlyHeard old new
  pub driven_on : AllZip DrivenOn old new
  pub seats : AllZip SameSeat old new
  pub counted : HasCounted new progress'
  pub round : (progress'.receives ≡ 0) ⊎ (progress'.receives ≡ progress.receives + 1)
  pub few_receives : progress'.receives < max_round_receives
  pub still : progress'.receives ≢ 0 → queries_of new ≢ []
  pub left : progress'.left ≡ progress.left - 1
  pub unsaid : progress'.unsaid ≡ progress.unsaid
  pub foreign : progress'.foreign ≤ progress.foreign + 1
  pub few_foreign : busy ≡ true → progress'.foreign < max_strays
  pub same : busy ≡ false → map whose new ≡ map whose old
  pub same_gathered : busy ≡ false → map (λ k. k.gathered) new ≡ map (λ k. k.gathered) old
  pub none_open : busy ≡ false → queries_of new ≡ []

-- ---- ending early

-- the events, without the last one where that is a datagram and no receive failed, show where all lookups stood
pub record ShowsEarly (busy : Bool) (fault : ManyFault) (f : Frame) (count : ℕ) (old : Stand) (read : Reading) (events : List Event) : Type 0 where
  pub front : List Event
  pub shows : ManyShow busy f count old.seekers old.progress old.words.place None read front
  pub whole : (events ≡ front) ⊎ ((fault ≢ LinkFault) × (from : Addr) × (bytes : List ℕ) × (until : ℕ) × (at : ℕ) × (events ≡ front ++ Got from bytes until at ∷ []))

-- where a step ends all early: what the events showed before it, and perhaps one datagram more
abbrev pub Stops : Bool → ManyFault → Accepts → Tags → ServeSetting → Stand → Option (List Event) → Type 0
Stops busy fault accepts tags server old told' =
    (f : Frame) (count : ℕ) (read : Reading) (began : Option (List Event)) → IsFrame accepts tags server old.words.seed f
    → Grows began old.told (λ events. ManyShow busy f count old.seekers old.progress old.words.place None read events) → Grows began told' (λ events. ShowsEarly busy fault f count old read events)

-- the events end with the foreign datagram of this number, before which a query was open
pub record ShowsForeign (busy : Bool) (f : Frame) (count : ℕ) (old : Stand) (read : Reading) (number : ℕ) (events : List Event) : Type 0 where
  pub front : List Event
  pub shows : ManyShow busy f count old.seekers old.progress old.words.place None read front
  pub from : Addr
  pub bytes : List ℕ
  pub until : ℕ
  pub at : ℕ
  pub last : events ≡ front ++ Got from bytes until at ∷ []
  pub some_open : open_of shows.end.each ≢ []
  pub foreign : IsForeign f.accepts from bytes (map whose old.seekers) shows.end.each
  pub number_is : shows.end.foreign + 1 ≡ number

-- where a step ends all by the last foreign datagram that is taken
abbrev pub EndsByForeign : Bool → Accepts → Tags → ServeSetting → Stand → Option (List Event) → Type 0
EndsByForeign busy accepts tags server old told' =
    (f : Frame) (count : ℕ) (read : Reading) (began : Option (List Event)) → IsFrame accepts tags server old.words.seed f
    → Grows began old.told (λ events. ManyShow busy f count old.seekers old.progress old.words.place None read events) → Grows began told' (λ events. ShowsForeign busy f count old read max_strays events)

-- the node that serves made these calls, and maybe more
abbrev pub RanOn : Hands → Hands → Type 0
RanOn old new = (did : List Did) × Grew old new did

-- where the lookups stand when a step ends all early: the last stand that the events went on to show
pub record EndsEarly (busy : Bool) (fault : ManyFault) (accepts : Accepts) (tags : Tags) (server : ServeSetting) (old : Stand) (host' : Hands) (told' : Option (List Event)) : Type 0 where
  pub last : Stand
  pub advances : Advances busy [] accepts tags server old last
  pub same : SameHands old.host last.host
  pub legal : AllByRecursion IsLegal last.seekers
  pub longer : AllZip Longer old.seekers last.seekers
  pub driven_on : AllZip DrivenOn old.seekers last.seekers
  pub seats : AllZip SameSeat old.seekers last.seekers
  pub same_whose : busy ≡ false → map whose last.seekers ≡ map whose old.seekers
  pub same_gathered : busy ≡ false → map (λ k. k.gathered) last.seekers ≡ map (λ k. k.gathered) old.seekers
  pub stops : Stops busy fault accepts tags server last told'
  pub ran_on : RanOn last.host host'

-- the same where the last foreign datagram that is taken ends all
pub record EndsLast (accepts : Accepts) (tags : Tags) (server : ServeSetting) (old : Stand) (host' : Hands) (told' : Option (List Event)) : Type 0 where
  pub last : Stand
  pub advances : Advances true [] accepts tags server old last
  pub same : SameHands old.host last.host
  pub legal : AllByRecursion IsLegal last.seekers
  pub longer : AllZip Longer old.seekers last.seekers
  pub driven_on : AllZip DrivenOn old.seekers last.seekers
  pub seats : AllZip SameSeat old.seekers last.seekers
  pub ends : EndsByForeign true accepts tags server last told'
  pub ran_on : RanOn last.host host'

-- ---- rounds

-- a receive may be made that waits for a reply
pub record MayAwait (ks : List Seeker) (progress : Progress) : Type 0 where
  pub holds : AllByRecursion Holding ks
  pub some_open : queries_of ks ≢ []
  pub in_turn : progress.receives ≡ 0 → AllByRecursion NoneAsks ks
  pub few_receives : progress.receives < max_round_receives
  pub few_foreign : progress.foreign < max_strays
  pub counted : HasCounted ks progress

-- what the receives of a round leave, beside what they told
pub record ReceivedAll (old new : List Seeker) (progress progress' : Progress) : Type 0 where
  pub holds : AllByRecursion Holding new
  pub longer : AllZip Longer old new
  pub only_heard : AllZip OnlyHeard old new
  pub driven_on : AllZip DrivenOn old new
  pub seats : AllZip SameSeat old new
  pub counted : HasCounted new progress'
  pub later : progress.moment ≤ progress'.moment
  pub left : progress'.left ≤ progress.left
  pub few_foreign : progress'.foreign < max_strays

-- ---- asking

-- the bytes of the lookup's query
abbrev pub query_bytes : Seeker → ℕ → List ℕ
query_bytes k tx = form (query_message k.quest tx)

-- what the path may ask is open, under the next word; where it could not be sent its query is closed again, and it is lost
pub data AsksOver (moment : ℕ) (words : WordsState) (path : ℕ) (old new : Seeker) (told told' : Option (List Event)) : Type 0 where
  is_sent : (asked : Asked) → AsksNext (word words.seed words.place) (deadline_of moment old.quest.timeout) path old.lookup new.lookup asked → Grows told told' (λ es. es ≡ Sent asked.contact.addr (query_bytes old asked.tx) ∷ []) → AsksOver moment words path old new told told'
  is_unsent : (asked : Asked) (mid : Lookup) → AsksNext (word words.seed words.place) (deadline_of moment old.quest.timeout) path old.lookup mid asked → new.lookup.queries ≡ old.lookup.queries
      → new.lookup.book ≡ added mid.book (Lost (asker asked.contact mid.book.journal) asked.contact SendFault) → Grows told told' (λ es. es ≡ Unsent asked.contact.addr (query_bytes old asked.tx) ∷ []) → AsksOver moment words path old new told told'

-- the lookup is within its limits, what it believes is what its book settles by, no deadline is later than one of a query that
-- is sent at the moment, and it asked no more contacts than its paths may have
pub record IsReady (moment : ℕ) (k : Seeker) : Type 0 where
  pub some_path : 0 < k.lookup.book.setting.paths
  pub few_paths : k.lookup.book.setting.paths ≤ max_paths
  pub few : k.lookup.book.setting.alpha * k.lookup.book.setting.paths ≤ max_open
  pub small : k.lookup.book.setting.k < 256
  pub policy : k.quest.policy ≡ k.lookup.book.setting.policy
  pub deadlines : AllByRecursion (λ (q : Query). q.deadline ≤ deadline_of moment k.quest.timeout) k.lookup.queries
  pub few_asks : length (asked k.lookup.book.journal) ≤ max_paths * max_path_contacts

-- the lookups before the i-th may ask nothing, nor may the first paths of that one
abbrev pub NoneBefore : ℕ → ℕ → List Seeker → Type 0
NoneBefore i paths [] = Unit {0}
NoneBefore zero paths (k ∷ ks) = (p : ℕ) → p < paths → may_ask k.lookup.book.setting p k.lookup.book.journal ≡ None
NoneBefore (suc i) paths (k ∷ ks) = NoneAsks k × NoneBefore i paths ks

-- there is a word for each contact that may still be asked
abbrev pub HasWords : WordsState → List Seeker → Type 0
HasWords words ks = words.place < 2 ^ 59 + asks_of ks

-- where a round begins
pub record MayAskAll (ks : List Seeker) (progress : Progress) (words : WordsState) : Type 0 where
  pub holds : AllByRecursion Holding ks
  pub ready : AllByRecursion (IsReady progress.moment) ks
  pub settled : AllByRecursion NothingLeft ks
  pub few : length ks ≤ max_lookups
  pub has_words : HasWords words ks
  pub counted : HasCounted ks progress

-- contacts were asked, and their queries' owners were written down
pub record AsksAll (accepts : Accepts) (tags : Tags) (server : ServeSetting) (old new : Stand) (owners owners' : List ℕ) : Type 0 where
  pub made : List ℕ
  pub advances : Advances true made accepts tags server old new
  pub owners_are : owners' ≡ owners ++ made
  pub longer : AllZip Longer old.seekers new.seekers
  pub driven_on : AllZip DrivenOn old.seekers new.seekers
  pub seats : AllZip SameSeat old.seekers new.seekers
  pub may : MayAskAll new.seekers new.progress new.words
  pub progress : new.progress ≡ old.progress
  pub drawn : new.words ≡ record old.words { place = old.words.place + length made }

-- ---- settling

-- it tells the table of this turn
abbrev pub IsSeated : TurnState TableState → Seeker → Type 0
IsSeated turn k = k.pass.turn ≡ turn.id

-- what the lookup has is settled, in part: its journal has more settling entries, and it made calls by its pass
pub record SettlesSome (old new : Seeker) : Type 0 where
  pub quest : new.quest ≡ old.quest
  pub setting : new.lookup.book.setting ≡ old.lookup.book.setting
  pub queries : new.lookup.queries ≡ old.lookup.queries
  pub more : List Entry
  pub journal : new.lookup.book.journal ≡ old.lookup.book.journal ++ more
  pub none_driven : driven more ≡ []
  pub no_seeds : seeds more ≡ []
  pub gathered : new.gathered ≡ old.gathered
  pub holds : Holding new
  pub same : SamePass old.pass new.pass

-- all is settled, and the table was told of each contact that answered, in order
pub record SettlesWhole (old new : Seeker) : Type 0 where
  pub some : SettlesSome old new
  pub left : NothingLeft new
  pub told : List (Made TableCall TableReply)
  pub grew : mine new.pass ≡ mine old.pass ++ told
  pub calls : calls_in told ≡ seen_calls (noted some.more)
  pub memory : All (λ m. HasMemory m.reply) told
