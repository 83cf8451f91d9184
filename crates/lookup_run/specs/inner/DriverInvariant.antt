-- Where a lookup stands between two calls on its link: what its events showed, its journal, its open queries and its table.
use Rattle.std.specs.Prelude.{◌≡◌, ℕ, ◌+◌, ◌-◌, ◌*◌, ◌^◌, ◌<◌, ◌≤◌, List, [], ◌∷◌, ◌++◌, length, map, Option}
use Rattle.std.specs.List.{AllByRecursion}
use Rattle.kad_base.specs.declared.types.Event.{Event}
use Rattle.kad_base.specs.declared.types.Event.TheVariants.{Now}
use Rattle.kad_base.specs.Limits.{max_paths, max_path_contacts, max_strays, max_round_receives}
use Rattle.kad_base.specs.Outside.{Grows}
use Rattle.id_puzzles.specs.Drawn.{WordsState}
use Rattle.query_book.specs.declared.Query.{Query}
use Rattle.contact_table.specs.TableState.{TableState}
use Rattle.claim_book.specs.declared.types.Entry.{Entry}
use Rattle.claim_book.specs.Journal.{seeds, asked, open_any}
use Rattle.lookup_run.specs.declared.types.LookSetting.{LookSetting}
use Rattle.lookup_run.specs.declared.types.LookupState.{LookupState}
use Rattle.lookup_core.specs.Timeouts.{deadline_of}
use Rattle.lookup_run.specs.Tells.{Given, Seen, driven, Gives, begun}
use Rattle.lookup_run.specs.Rounds.{Scheduling, path_number, SettlesIn, InTurn}
use Rattle.lookup_core.specs.Reply.{Answered}
use Rattle.lookup_core.specs.Gathered.{IsBare, Keeping}
use Rattle.lookup_run.specs.Gathered.{Hears}
use Rattle.lookup_run.specs.Lookup.{setting_of, given_of, seeds_dealt, drawn_for, table_calls, TableToldBy}
use Rattle.lookup_core.specs.LookupSteps.{as_open}
use Rattle.lookup_core.specs.declared.quest.AskKind.TheVariants.{FindNode}
use Rattle.lookup_core.specs.Sealed.{Accepts}

-- ---- the driver's own state

-- the book is that of the lookup, and its open contacts are those of the open queries, in order
pub record Keeps (look : LookSetting) (work : LookupState) : Type 0 where
  pub setting : work.lookup.book.setting ≡ setting_of look
  pub is_open : map (λ q. q.contact) work.lookup.queries ≡ open_any work.lookup.book.journal
  pub ids : AllByRecursion (λ (q : Query). q.tx < 2 ^ 32) work.lookup.queries
  pub deadlines : AllByRecursion (λ (q : Query). q.deadline ≤ deadline_of work.progress.moment look.timeout) work.lookup.queries
  pub few_strays : work.progress.strays < max_strays
  pub few_receives : work.progress.receives < max_round_receives
  pub is_bare : look.kind ≡ FindNode → IsBare work.gathered

-- there is a word for each contact that may still be asked
abbrev pub HasWords : WordsState → List Entry → Type 0
HasWords words J = words.place < 2 ^ 59 + length (asked J)

-- the most asks of a lookup: a path asks none but its contacts, and none twice
abbrev pub max_asks : ℕ
max_asks = max_paths * max_path_contacts

-- how far a lookup is from its end: an ask takes two and may give one back, a reply or a timeout takes one, and so does a
-- stray
abbrev pub weight_of : LookupState → ℕ
weight_of work = 2 * (max_asks - length (asked work.lookup.book.journal)) + (length work.lookup.queries + (max_strays - work.progress.strays))

-- ---- what was told

-- one event after the part P of the journal J, with all that it shows
pub record Step (scheduling : Scheduling) (g : Given) (J P : List Entry) (s : Seen) (e : Event) : Type 0 where
  pub mid : Seen
  pub between : List Entry
  pub gave : List Entry
  pub found : List Answered
  pub gives : Gives g J s e mid
  pub given : mid.given ≡ s.given ++ gave
  pub settles : SettlesIn scheduling s.receives between
  pub in_turn : InTurn g.setting (P ++ between) s e gave
  pub hears : Hears g.quest g.accepts s e found

-- the events, one after another, from the part P of the journal J to its part Q
abbrev pub Walk : Scheduling → Given → List Entry → List Entry → Seen → List Event → Seen → List Entry → List Answered → Type 0
Walk scheduling g J P s [] t Q heard = (t ≡ s) × (Q ≡ P) × (heard ≡ [])
Walk scheduling g J P s (e ∷ es) t Q heard =
    (step : Step scheduling g J P s e) × (rest : List Answered) × Walk scheduling g J ((P ++ step.between) ++ step.gave) step.mid es t Q rest × (heard ≡ step.found ++ rest)

-- the driver keeps of the events just this
pub record KeepsSeen (g : Given) (work : LookupState) (place : ℕ) (s : Seen) : Type 0 where
  pub moment : s.moment ≡ work.progress.moment
  pub queries : s.queries ≡ map (as_open work.lookup.book.journal) work.lookup.queries
  pub sends : g.place + s.sends ≡ place
  pub strays : s.strays ≡ work.progress.strays
  pub receives : s.receives ≡ work.progress.receives
  pub given : s.given ≡ driven work.lookup.book.journal

-- The events show where the lookup stands. What was settled since the last one is on the first b paths, and what was
-- asked since the last receive on paths up to a.
pub record Shows (scheduling : Scheduling) (g : Given) (work : LookupState) (place b a : ℕ) (events : List Event) : Type 0 where
  pub at : ℕ
  pub rest : List Event
  pub first : events ≡ Now at ∷ rest
  pub end : Seen
  pub last : List Entry
  pub heard : List Answered
  pub walk : Walk scheduling g work.lookup.book.journal (seeds work.lookup.book.journal) (begun at) rest end last heard
  pub behind : List Entry
  pub journal : work.lookup.book.journal ≡ last ++ behind
  pub settles : SettlesIn scheduling end.receives behind
  pub below : AllByRecursion (λ e. path_number e < b) behind
  pub ascends : AllByRecursion (λ e. path_number e ≤ a) end.since
  pub stands : KeepsSeen g work place end
  pub keeping : Keeping g.quest.kind heard work.gathered

-- since the lookup began, with these words and this table
pub record TraceInvariant (scheduling : Scheduling) (look : LookSetting) (accepts : Accepts) (start : WordsState) (table : TableState) (began : Option (List Event)) (words : WordsState) (work : LookupState) (b a : ℕ) (told : Option (List Event)) : Type 0 where
  pub drawn : words ≡ drawn_for start work.lookup.book.journal
  pub seeds_are : seeds work.lookup.book.journal ≡ seeds_dealt look table
  pub tabled : TableToldBy scheduling (table_calls look work.lookup.book.journal) table work.table
  pub shows : Grows began told (λ events. Shows scheduling (given_of look accepts start) work words.place b a events)

-- whatever holds since a lookup began goes on to hold, where its rounds settle in this scheduling
abbrev pub PreservesBy : Scheduling → LookSetting → Accepts → WordsState → WordsState → LookupState → LookupState → ℕ → ℕ → ℕ → ℕ → Option (List Event) → Option (List Event) → Type 0
PreservesBy scheduling look accepts words words' old new b a b' a' told told' =
    (start : WordsState) (table : TableState) (began : Option (List Event)) → TraceInvariant scheduling look accepts start table began words old b a told → TraceInvariant scheduling look accepts start table began words' new b' a' told'

-- in whatever scheduling
abbrev pub Preserves : LookSetting → Accepts → WordsState → WordsState → LookupState → LookupState → ℕ → ℕ → ℕ → ℕ → Option (List Event) → Option (List Event) → Type 0
Preserves look accepts words words' old new b a b' a' told told' = (scheduling : Scheduling) → PreservesBy scheduling look accepts words words' old new b a b' a' told told'
