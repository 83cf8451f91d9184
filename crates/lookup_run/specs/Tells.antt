-- What the transcript of a link tells of the journal of a lookup: which entries its events give, and when. Answers and
-- error messages are matched to queries by transaction id and source address (BEP 5); who may be asked, and when a path
-- waits, is Kademlia's (2002, section 2.3) on each of S/Kademlia's disjoint paths (2007, section 4.4).
use Rattle.std.specs.Prelude.{◌≡◌, ◌≢◌, ◌⊎◌, ℕ, zero, suc, ◌+◌, ◌<◌, List, [], ◌∷◌, ◌++◌, length, map, None, false}
use Rattle.std.specs.List.{AllByRecursion}
use Rattle.kad_base.specs.declared.types.Addr.{Addr}
use Rattle.kad_base.specs.declared.types.Contact.{Contact}
use Rattle.kad_base.specs.declared.types.Event.{Event}
use Rattle.kad_base.specs.declared.types.Event.TheVariants.{Now, Sent, Unsent, Got, Quiet}
use Rattle.kad_base.specs.Words.{word}
use Rattle.claim_book.specs.declared.types.Setting.{Setting}
use Rattle.claim_book.specs.declared.types.Cause.TheVariants.{SendFault}
use Rattle.claim_book.specs.declared.types.Entry.{Entry}
use Rattle.claim_book.specs.declared.types.Entry.TheVariants.{Ask, Lost}
use Rattle.claim_book.specs.Journal.{may_ask}
use Rattle.claim_book.specs.Legal.{is_of}
use Rattle.lookup_core.specs.declared.quest.Quest.{Quest}
use Rattle.lookup_core.specs.Matching.{OpenQuery, IsQuery, Matched, IsStray}
use Rattle.lookup_core.specs.Sealed.{Accepts}
pub use Rattle.lookup_core.specs.Driven.{is_driven}
unfoldable pub use Rattle.lookup_core.specs.Driven.{driven}
pub use Rattle.lookup_core.specs.Receiving.{IsEarliest, WaitsUntil, goes_on}
use Rattle.lookup_core.specs.Timeouts.{deadline_of, closed_at, open_at}

-- what a lookup is given: its setting, what it asks and believes, which tags it accepts, and the generator's seed and next
-- place
pub record Given : Type 0 where
  pub setting : Setting
  pub quest : Quest
  pub accepts : Accepts
  pub seed : List ℕ
  pub place : ℕ

-- what the events so far show
pub record Seen : Type 0 where
  -- the last told moment
  pub moment : ℕ
  -- the open queries, oldest first
  pub queries : List OpenQuery
  -- how many queries were sent, or failed to be
  pub sends : ℕ
  -- how many datagrams were strays
  pub strays : ℕ
  -- how many receives the round has so far; 0 where the next one begins a round
  pub receives : ℕ
  -- the entries that the events gave, and of these the ones since the last receive
  pub given : List Entry
  pub since : List Entry

-- events that give these entries, at no receive
abbrev pub gives : Seen → List Entry → Seen
gives s entries = record s { given = s.given ++ entries; since = s.since ++ entries }

-- a query that was sent, under the next drawn transaction id that is free, is open, and gives its Ask
pub record SentGives (g : Given) (s : Seen) (to : Addr) (bytes : List ℕ) (t : Seen) : Type 0 where
  pub path : ℕ
  pub contact : Contact
  pub tx : ℕ
  pub is_query : IsQuery g.quest s.queries (word g.seed (g.place + s.sends)) to bytes contact tx
  pub after : t ≡ record (gives s (Ask path contact ∷ [])) { queries = s.queries ++ record { path = path; contact = contact; tx = tx; deadline = deadline_of s.moment g.quest.timeout } ∷ []; sends = s.sends + 1 }

-- one that could not be sent gives its Ask and is lost
pub record UnsentGives (g : Given) (s : Seen) (to : Addr) (bytes : List ℕ) (t : Seen) : Type 0 where
  pub path : ℕ
  pub contact : Contact
  pub tx : ℕ
  pub is_query : IsQuery g.quest s.queries (word g.seed (g.place + s.sends)) to bytes contact tx
  pub after : t ≡ record (gives s (Ask path contact ∷ Lost path contact SendFault ∷ [])) { sends = s.sends + 1 }

-- how long a receive waits for the open queries
abbrev pub Waits : ℕ → Seen → ℕ → Type 0
Waits n s until = WaitsUntil n s.moment (map (λ q. q.deadline) s.queries) until

-- Before a receive that begins a round the path may ask nothing: so it was at some point of the journal that has all
-- that earlier receives gave and all that was asked and lost on the path, and nothing that comes later.
pub record HasAsked (g : Given) (J : List Entry) (s : Seen) (p : ℕ) : Type 0 where
  pub before : List Entry
  pub behind : List Entry
  pub later : List Entry
  pub earlier : List Entry
  pub splits : J ≡ before ++ behind
  pub none : may_ask g.setting p before ≡ None
  pub covers : s.given ≡ driven before ++ later
  pub since_receive : s.since ≡ earlier ++ later
  pub of_others : AllByRecursion (λ (e : Entry). is_of p e ≡ false) later

-- where a receive begins a round, so it is with each path
abbrev pub HaveAsked : ℕ → Given → List Entry → Seen → Type 0
HaveAsked zero g J s = (p : ℕ) → p < g.setting.paths → HasAsked g J s p
HaveAsked (suc n) g J s = Unit {0}

-- a receive may be made, and waits as long as it has to
pub record Receives (g : Given) (J : List Entry) (s : Seen) (until : ℕ) : Type 0 where
  pub some_open : s.queries ≢ []
  pub waits : Waits s.receives s until
  pub asked : HaveAsked s.receives g J s

-- the state after a receive that first gave these entries and left these queries
abbrev pub received : Seen → ℕ → List Entry → List OpenQuery → ℕ → ℕ → Seen
received s at entries left strays receives = record {
  moment = at;
  queries = open_at at left;
  sends = s.sends;
  strays = strays;
  receives = receives;
  given = s.given ++ (entries ++ closed_at at left);
  since = [];
}

-- the receives of the round after a datagram that left these queries
abbrev pub receives_seen : ℕ → List OpenQuery → ℕ
receives_seen n queries = goes_on n (length queries)

-- what the events show after a datagram that replied to an open query
abbrev pub after_match : Seen → ℕ → Entry → List OpenQuery → Seen
after_match s at e left = received s at (e ∷ []) left s.strays (receives_seen s.receives (open_at at left))

-- the same after a stray
abbrev pub after_stray : Seen → ℕ → Seen
after_stray s at = received s at [] s.queries (s.strays + 1) (receives_seen s.receives (open_at at s.queries))

-- the same after a receive that gave no datagram: the round is over
abbrev pub after_quiet : Seen → ℕ → Seen
after_quiet s at = received s at [] s.queries s.strays 0

-- a datagram that is matched gives the entry of its reply
pub record MatchGives (g : Given) (s : Seen) (from : Addr) (bytes : List ℕ) (at : ℕ) (t : Seen) : Type 0 where
  pub entry : Entry
  pub left : List OpenQuery
  pub matched : Matched g.quest g.accepts s.queries from bytes entry left
  pub after : t ≡ after_match s at entry left

-- a datagram is matched, or is a stray
abbrev pub GotGives : Given → Seen → Addr → List ℕ → ℕ → Seen → Type 0
GotGives g s from bytes at t = MatchGives g s from bytes at t ⊎ (IsStray g.quest g.accepts s.queries from bytes × (t ≡ after_stray s at))

-- what one event gives; a lookup asks for the moment before anything else, and never again
abbrev pub Gives : Given → List Entry → Seen → Event → Seen → Type 0
Gives g J s (Now at) t = ⊥
Gives g J s (Sent to bytes) t = SentGives g s to bytes t
Gives g J s (Unsent to bytes) t = UnsentGives g s to bytes t
Gives g J s (Got from bytes until at) t = Receives g J s until × GotGives g s from bytes at t
Gives g J s (Quiet until at) t = Receives g J s until × (t ≡ after_quiet s at)

-- what events give, one after another, up to what they show then
abbrev pub TellsFrom : Given → List Entry → Seen → List Event → Seen → Type 0
TellsFrom g J s [] t = t ≡ s
TellsFrom g J s (e ∷ es) t = (mid : Seen) × Gives g J s e mid × TellsFrom g J mid es t

-- after the first event, which tells the moment
abbrev pub begun : ℕ → Seen
begun at = record { moment = at; queries = []; sends = 0; strays = 0; receives = 0; given = []; since = [] }

-- The events tell the journal so far: they give exactly its driver's entries, in order. The first tells the moment; no
-- events give none.
abbrev pub TellsSoFar : Given → List Entry → List Event → Seen → Type 0
TellsSoFar g J [] end = (driven J ≡ []) × (end ≡ begun 0)
TellsSoFar g J (Now at ∷ rest) end = TellsFrom g J (begun at) rest end × (end.given ≡ driven J)
TellsSoFar g J other end = ⊥

-- the events tell the journal: so far, and no query is open at the end
pub record Tells (g : Given) (J : List Entry) (events : List Event) : Type 0 where
  pub end : Seen
  pub so_far : TellsSoFar g J events end
  pub none_open : end.queries ≡ []

-- the events tell the journal so far, and end with their stray of this number
pub record EndsAtStray (g : Given) (J : List Entry) (events : List Event) (number : ℕ) : Type 0 where
  pub before : List Event
  pub end : Seen
  pub from : Addr
  pub bytes : List ℕ
  pub until : ℕ
  pub at : ℕ
  pub so_far : TellsSoFar g J before end
  pub last : events ≡ before ++ Got from bytes until at ∷ []
  pub stray : IsStray g.quest g.accepts end.queries from bytes
  pub count : end.strays + 1 ≡ number

-- they tell the journal so far, and have fewer strays
pub record HasFewStrays (g : Given) (J : List Entry) (events : List Event) (number : ℕ) : Type 0 where
  pub end : Seen
  pub so_far : TellsSoFar g J events end
  pub few : end.strays < number

-- they don't end so, whichever journal they are read by
abbrev pub NeverEnds : Given → ℕ → List Event → Type 0
NeverEnds g number events = (J : List Entry) → ¬ EndsAtStray g J events number
