-- What the events of a link show of one lookup, whatever else they show: its open queries, and the entries that they gave to
-- its journal. Who may be asked, and when a path waits, is Kademlia's (2002, section 2.3) on each of S/Kademlia's disjoint
-- paths (2007, section 4.4); answers and error messages are matched to queries by transaction id and source address (BEP 5).
use Rattle.std.specs.Prelude.{◌≡◌, ℕ, ◌<◌, List, [], ◌∷◌, ◌++◌, map, filter, None, false}
use Rattle.std.specs.List.{AllByRecursion}
use Rattle.kad_base.specs.declared.types.Addr.{Addr}
use Rattle.kad_base.specs.declared.types.Contact.{Contact}
use Rattle.claim_book.specs.declared.types.Setting.{Setting}
use Rattle.claim_book.specs.declared.types.Cause.TheVariants.{SendFault}
use Rattle.claim_book.specs.declared.types.Entry.{Entry}
use Rattle.claim_book.specs.declared.types.Entry.TheVariants.{Ask, Lost}
use Rattle.claim_book.specs.Journal.{may_ask}
use Rattle.claim_book.specs.Legal.{is_of}
use Rattle.lookup_core.specs.declared.quest.Quest.{Quest}
use Rattle.lookup_core.specs.Gathered.{HearsOne}
use Rattle.lookup_core.specs.Matching.{OpenQuery, IsQuery, Matched}
use Rattle.lookup_core.specs.Reply.{Answered}
use Rattle.lookup_core.specs.Sealed.{Accepts}
pub use Rattle.lookup_core.specs.Driven.{is_driven}
unfoldable pub use Rattle.lookup_core.specs.Driven.{driven}
use Rattle.lookup_core.specs.Timeouts.{is_overdue, closed_at, open_at}

-- what the events so far show of a lookup: its open queries, oldest first; the entries that they gave to its journal, of these
-- the ones since the last receive, and the contacts that this receive lost by their deadlines; and the answers that it heard,
-- in order
pub record Mine : Type 0 where
  pub queries : List OpenQuery
  pub given : List Entry
  pub since : List Entry
  pub lost : List Contact
  pub heard : List Answered

-- a lookup, as events are read for it: its setting, what it asks and believes, and its journal
pub record Whose : Type 0 where
  pub setting : Setting
  pub quest : Quest
  pub journal : List Entry

-- ---- asking

-- entries that no receive gave
abbrev pub gives : Mine → List Entry → Mine
gives m entries = record m { given = m.given ++ entries; since = m.since ++ entries }

-- a query that was sent, under the next drawn transaction id that the lookup has free, is open, and gives its Ask
pub record SentGives (quest : Quest) (drawn deadline : ℕ) (m : Mine) (to : Addr) (bytes : List ℕ) (n : Mine) : Type 0 where
  pub path : ℕ
  pub contact : Contact
  pub tx : ℕ
  pub is_query : IsQuery quest m.queries drawn to bytes contact tx
  pub after : n ≡ record (gives m (Ask path contact ∷ [])) { queries = m.queries ++ record { path = path; contact = contact; tx = tx; deadline = deadline } ∷ [] }

-- one that could not be sent gives its Ask and is lost
pub record UnsentGives (quest : Quest) (drawn : ℕ) (m : Mine) (to : Addr) (bytes : List ℕ) (n : Mine) : Type 0 where
  pub path : ℕ
  pub contact : Contact
  pub tx : ℕ
  pub is_query : IsQuery quest m.queries drawn to bytes contact tx
  pub after : n ≡ gives m (Ask path contact ∷ Lost path contact SendFault ∷ [])

-- Before a receive that begins a round the path may ask nothing: so it was at some point of the journal that has all that
-- earlier receives gave and all that was asked and lost on the path, and nothing that comes later.
pub record HasAsked (w : Whose) (m : Mine) (p : ℕ) : Type 0 where
  pub before : List Entry
  pub behind : List Entry
  pub later : List Entry
  pub earlier : List Entry
  pub splits : w.journal ≡ before ++ behind
  pub none : may_ask w.setting p before ≡ None
  pub covers : m.given ≡ driven before ++ later
  pub since_receive : m.since ≡ earlier ++ later
  pub of_others : AllByRecursion (λ (e : Entry). is_of p e ≡ false) later

-- so it is with each path
abbrev pub HaveAsked : Whose → Mine → Type 0
HaveAsked w m = (p : ℕ) → p < w.setting.paths → HasAsked w m p

-- ---- receiving

-- after a receive that first gave these entries and left these queries: who is overdue then is lost, oldest first
abbrev pub received : Mine → ℕ → List Entry → List OpenQuery → Mine
received m at entries left = record {
  queries = open_at at left;
  given = m.given ++ (entries ++ closed_at at left);
  since = [];
  lost = map (λ q. q.contact) (filter (is_overdue at) left);
  heard = m.heard;
}

-- after a receive that was for another lookup, or for none
abbrev pub waited : ℕ → Mine → Mine
waited at m = received m at [] m.queries

-- a datagram that the lookup matches gives the entry of its reply; and it is heard where it is the answer of whom was asked, in
-- its own name
pub record MatchGives (quest : Quest) (accepts : Accepts) (m : Mine) (from : Addr) (bytes : List ℕ) (at : ℕ) (n : Mine) : Type 0 where
  pub entry : Entry
  pub left : List OpenQuery
  pub matched : Matched quest accepts m.queries from bytes entry left
  pub found : List Answered
  pub hears : HearsOne quest accepts m.queries from bytes found
  pub after : n ≡ record (received m at (entry ∷ []) left) { heard = m.heard ++ found }
