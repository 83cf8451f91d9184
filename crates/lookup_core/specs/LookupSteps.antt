-- What each call on a lookup owes.
use Rattle.std.specs.Prelude.{◌≡◌, ◌≢◌, ◌⊎◌, ℕ, ◌*◌, ◌^◌, ◌<◌, ◌≤◌, Contains, List, [], ◌∷◌, ◌++◌, map, filter, Option, Some, None, true, nat_lt, slice_get, remove}
use Rattle.std.specs.List.{AllByRecursion}
use Rattle.kad_base.specs.declared.types.Addr.{Addr}
use Rattle.kad_base.specs.declared.types.Contact.{Contact}
use Rattle.kad_base.specs.Contacts.{among}
use Rattle.kad_base.specs.Limits.{max_open}
use Rattle.id_puzzles.specs.Drawn.{WordsState}
use Rattle.query_book.specs.declared.Query.{Query}
use Rattle.query_book.specs.Queries.{IsQueries, HasId, IsFirstFree, IsOf, ClosesOldest}
use Rattle.claim_book.specs.declared.types.Cause.TheVariants.{Timeout}
use Rattle.claim_book.specs.declared.types.Entry.{Entry}
use Rattle.claim_book.specs.declared.types.Entry.TheVariants.{Ask, Lost}
use Rattle.claim_book.specs.Journal.{open_any, may_ask}
use Rattle.claim_book.specs.Legal.{Legal}
use Rattle.claim_book.specs.Calls.{asker}
use Rattle.claim_book.specs.State.{BookState, added}
use Rattle.lookup_core.specs.declared.ask.Asked.{Asked}
use Rattle.lookup_core.specs.declared.on_reply.Taken.{Taken}
use Rattle.lookup_core.specs.declared.on_reply.Taken.TheVariants as taken
use Rattle.lookup_core.specs.declared.quest.Quest.{Quest}
use Rattle.lookup_core.specs.Reply.{Reply, Said, Answered, answered_seen}
use Rattle.lookup_core.specs.Reply as reply
use Rattle.lookup_core.specs.declared.state.Lookup.{Lookup}
use Rattle.lookup_core.specs.Matching.{OpenQuery, Replies, ReplyGives}
use Rattle.lookup_core.specs.Says.{IsReply}
use Rattle.lookup_core.specs.Sealed.{Accepts, IsSealed, speaker}
use Rattle.lookup_core.specs.Timeouts.{deadline_of, closed_at}

-- an open query with its path, which is the one that asked its contact
abbrev pub as_open : List Entry → Query → OpenQuery
as_open J q = record { path = asker q.contact J; contact = q.contact; tx = q.tx; deadline = q.deadline }

-- its open contacts are those of its open queries, in order
pub record Holds (k : Lookup) : Type 0 where
  pub is_open : map (λ q. q.contact) k.queries ≡ open_any k.book.journal
  pub ids : AllByRecursion (λ (q : Query). q.tx < 2 ^ 32) k.queries

-- ---- asking

-- the book after the path was asked what it asks
abbrev pub asked_more : ℕ → BookState → Option Contact → BookState
asked_more p book None = book
asked_more p book (Some c) = added book (Ask p c)

-- there is room for one query more, its deadline is no earlier than any other's, and there is a word for it
pub record CanAsk (quest : Quest) (moment : ℕ) (words : WordsState) (k : Lookup) : Type 0 where
  pub holds : Holds k
  pub some_path : 0 < k.book.setting.paths
  pub few : k.book.setting.alpha * k.book.setting.paths ≤ max_open
  pub deadlines : AllByRecursion (λ (q : Query). q.deadline ≤ deadline_of moment quest.timeout) k.queries
  pub place : words.place < 2 ^ 60

-- The path asked what it may: a query to that contact is open, under the first free transaction id from the drawn word on.
pub record AsksNext (drawn deadline path : ℕ) (old new : Lookup) (asked : Asked) : Type 0 where
  pub legal : Legal old.book.setting old.book.journal
  pub may : may_ask old.book.setting path old.book.journal ≡ Some asked.contact
  pub id : IsFirstFree old.queries drawn asked.tx
  pub book : new.book ≡ added old.book (Ask path asked.contact)
  pub queries : new.queries ≡ old.queries ++ record { tx = asked.tx; contact = asked.contact; deadline = deadline } ∷ []

-- that query is the last one that was opened, after these
pub record IsLastOpened (asked : Asked) (before : List Query) (k : Lookup) : Type 0 where
  pub deadline : ℕ
  pub last : k.queries ≡ before ++ record { tx = asked.tx; contact = asked.contact; deadline = deadline } ∷ []
  pub free : ¬ HasId before asked.tx
  pub is_open : among (open_any k.book.journal) asked.contact ≡ true

abbrev pub IsJustOpened : Asked → Lookup → Type 0
IsJustOpened asked k = (before : List Query) × IsLastOpened asked before k

-- ---- hearing

-- a query to the contact, whatever its transaction id and its deadline
abbrev pub query_to : List Entry → Contact → OpenQuery
query_to J c = record { path = asker c J; contact = c; tx = 0; deadline = 0 }

-- one entry more: that of the reply of the contact, which was open in the journal
pub record HearsOne (quest : Quest) (c : Contact) (r : Reply) (old new : BookState) : Type 0 where
  pub entry : Entry
  pub gives : ReplyGives quest (query_to old.journal c) r entry
  pub after : new ≡ added old entry

-- what was heard: the answer of the contact, where it is in its own name
abbrev pub HearsIn : Contact → Reply → List Answered → Type 0
HearsIn c (reply.Answer answer) heard =
    ((answer.id ≡ c.id) × (heard ≡ record { contact = c; answer = answer } ∷ []))
    ⊎ ((answer.id ≢ c.id) × (heard ≡ []))
HearsIn c (reply.Error code) heard = heard ≡ []

-- what a datagram handed out
abbrev pub handed : Taken → List Answered
handed taken.Stray = []
handed (taken.Heard answered) = answered_seen answered ∷ []
handed taken.Lost = []

-- the open query at that place is the one that the reply is to, and it is sealed as the lookup asks for
pub record IsPlaceOf (quest : Quest) (accepts : Accepts) (from : Addr) (bytes : List ℕ) (said : Said) (k : Lookup) (place : ℕ) : Type 0 where
  pub valid : IsQueries k.queries
  pub query : Query
  pub here : slice_get k.queries place ≡ Some query
  pub answers : IsOf said.tx from query
  pub sealed : IsSealed quest.sealed accepts bytes (speaker query.contact said.reply)

-- the contact replied: the book has its entry, and its answer is handed out
pub record HearsReply (quest : Quest) (c : Contact) (r : Reply) (old new : BookState) (out : Taken) : Type 0 where
  pub hears : HearsOne quest c r old new
  pub hears_in : HearsIn c r (handed out)
  pub taken : out ≢ taken.Stray

-- the query at that place is closed, and the reply of its contact heard
pub record HearsAt (quest : Quest) (place : ℕ) (r : Reply) (old new : Lookup) (out : Taken) : Type 0 where
  pub query : Query
  pub was_open : slice_get old.queries place ≡ Some query
  pub closes : new.queries ≡ remove old.queries place
  pub hears : HearsReply quest query.contact r old.book new.book out

-- the datagram replies to one of the open queries and to no other, which is closed, and the reply is heard
pub record IsMatch (quest : Quest) (accepts : Accepts) (from : Addr) (bytes : List ℕ) (old new : Lookup) (heard : List Answered) : Type 0 where
  pub before : List Query
  pub query : Query
  pub behind : List Query
  pub what : Reply
  pub was_open : old.queries ≡ before ++ query ∷ behind
  pub alone : (q : Query) → Contains old.queries q → q.tx ≡ query.tx → q ≡ query
  pub replies : Replies quest accepts bytes from (as_open old.book.journal query) what
  pub reads : IsReply bytes (record { tx = query.tx; reply = what })
  pub closes : new.queries ≡ before ++ behind
  pub hears : HearsOne quest query.contact what old.book new.book
  pub hears_in : HearsIn query.contact what heard

-- the datagram replies to none of its open queries
abbrev pub RepliesToNone : Quest → Accepts → Addr → List ℕ → Lookup → Type 0
RepliesToNone quest accepts from bytes k = (q : Query) → Contains k.queries q → (r : Reply) → ¬ Replies quest accepts bytes from (as_open k.book.journal q) r

-- what the datagram was to the lookup
abbrev pub Takes : Quest → Accepts → Addr → List ℕ → Lookup → Lookup → Taken → Type 0
Takes quest accepts from bytes old new taken.Stray = RepliesToNone quest accepts from bytes old × (new ≡ old)
Takes quest accepts from bytes old new (taken.Heard answered) = IsMatch quest accepts from bytes old new (answered_seen answered ∷ [])
Takes quest accepts from bytes old new taken.Lost = IsMatch quest accepts from bytes old new []

-- ---- expiring

-- the oldest query is overdue: it is closed, and its contact lost
pub record LosesOldest (at : ℕ) (c : Contact) (old new : Lookup) : Type 0 where
  pub legal : Legal old.book.setting old.book.journal
  pub closes : ClosesOldest at c old.queries new.queries
  pub book : new.book ≡ added old.book (Lost (asker c old.book.journal) c Timeout)

-- all that are overdue at the moment are lost, oldest first
pub record LosesOverdue (at : ℕ) (old new : Lookup) : Type 0 where
  pub setting : new.book.setting ≡ old.book.setting
  pub journal : new.book.journal ≡ old.book.journal ++ closed_at at (map (as_open old.book.journal) old.queries)
  pub queries : new.queries ≡ filter (λ q. nat_lt at q.deadline) old.queries
  pub is_open : map (λ q. q.contact) new.queries ≡ open_any new.book.journal
