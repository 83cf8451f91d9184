-- What each step of a lookup owes.
use Rattle.std.specs.Prelude.{◌≡◌, ◌≢◌, ◌⊎◌, ℕ, ◌+◌, ◌<◌, ◌≤◌, List, [], ◌∷◌, length, map, Option, None, Result, IsOk, IfErr, OnOk, OnErr, false}
use Rattle.std.specs.List.{flat_map}
use Rattle.kad_base.specs.declared.types.Addr.{Addr}
use Rattle.kad_base.specs.declared.types.Event.{Event}
use Rattle.kad_base.specs.Limits.{max_strays}
use Rattle.kad_base.specs.Outside.{Grows}
use Rattle.id_puzzles.specs.Drawn.{WordsState}
use Rattle.query_book.specs.declared.Query.{Query}
use Rattle.contact_table.specs.declared.calls.TableCall.TheVariants.{Closest}
use Rattle.contact_table.specs.TableState.{TableState}
use Rattle.claim_book.specs.declared.types.Entry.{Entry}
use Rattle.claim_book.specs.Journal.{asked, may_ask}
use Rattle.claim_book.specs.Legal.{Legal}
use Rattle.claim_book.specs.RunOut.{RunOut}
use Rattle.claim_book.specs.Result.{result_of}
use Rattle.claim_book.specs.Calls.{Counted}
use Rattle.claim_book.specs.State.{BookState}
use Rattle.lookup_run.specs.declared.types.LookFault.{LookFault}
use Rattle.lookup_run.specs.declared.types.LookFault.TheVariants.{NoMemory}
use Rattle.lookup_run.specs.declared.types.LookSetting.{LookSetting}
use Rattle.lookup_run.specs.declared.types.Outcome.{Outcome}
use Rattle.lookup_run.specs.declared.types.Progress.{Progress}
use Rattle.lookup_run.specs.declared.types.LookupState.{LookupState}
use Rattle.lookup_core.specs.Timeouts.{closed_at}
use Rattle.lookup_core.specs.Receiving.{WaitsUntil}
use Rattle.lookup_run.specs.Tells.{NeverEnds}
use Rattle.lookup_run.specs.Rounds.{Scheduling, AllSettled, NoneAsks, WaitsInTurn}
use Rattle.lookup_core.specs.Reply.{Answered}
use Rattle.lookup_core.specs.Gathered.{IsEachOnce, KeepsFor}
use Rattle.lookup_core.specs.SendFaults.{unsent, RefusedIn}
use Rattle.lookup_run.specs.Lookup.{IsWithinLimits, setting_of, given_of, seeds_dealt, told_of, Unfinished, EndsByStrays, MeetsFewStrays, TableRan, TableTold, Told, quest_of}
use Rattle.lookup_core.specs.LookupSteps.{as_open, LosesOverdue, IsMatch, RepliesToNone}
use Rattle.lookup_run.specs.inner.DriverInvariant.{Keeps, HasWords, weight_of, TraceInvariant, PreservesBy, Preserves}
use Rattle.lookup_core.specs.Sealed.{Accepts}

-- ---- asking

-- contacts were asked; nothing is unsettled, and the first `to` paths may ask nothing
pub record Asks (look : LookSetting) (from to : ℕ) (words words' : WordsState) (old new : LookupState) (told told' : Option (List Event)) : Type 0 where
  pub keeps : Keeps look new
  pub has_words : HasWords words' new.lookup.book.journal
  pub settled : AllSettled look.paths new.lookup.book.journal
  pub none_below : NoneAsks (setting_of look) to new.lookup.book.journal
  pub progress : new.progress ≡ old.progress
  pub lighter : weight_of new ≤ weight_of old
  pub goes : (b : ℕ) (accepts : Accepts) → Preserves look accepts words words' old new b from b to told told'

-- the path may ask nothing, and nothing changed
pub record AsksNone (look : LookSetting) (path : ℕ) (words words' : WordsState) (old new : LookupState) (told told' : Option (List Event)) : Type 0 where
  pub none : may_ask (setting_of look) path old.lookup.book.journal ≡ None
  pub same_words : words' ≡ words
  pub same_work : new ≡ old
  pub same_told : told' ≡ told

-- ---- expiring

-- those overdue at the moment are lost, oldest first, and the table was told so
pub record Expires (at : ℕ) (old new : LookupState) : Type 0 where
  pub loses : LosesOverdue at old.lookup new.lookup
  pub table : TableTold (flat_map told_of (closed_at at (map (as_open old.lookup.book.journal) old.lookup.queries))) old.table new.table
  pub progress : new.progress ≡ old.progress
  pub gathered : new.gathered ≡ old.gathered

-- ---- ending early

-- What holds where a lookup ended early in a step which began with this journal, and in which the count of refused sends
-- went from the one to the other.
pub record Ended (look : LookSetting) (accepts : Accepts) (start : WordsState) (table : TableState) (began : Option (List Event)) (words' : WordsState) (table' : TableState) (told' : Option (List Event)) (J : List Entry) (before after : ℕ) : Type 0 where
  pub unfinished : (sends : ℕ) → RefusedIn J sends before → Unfinished look accepts table start words' began told' sends after
  pub ran : TableRan table table'

-- a lookup that ends early in this step, which sends nothing
abbrev pub Stops : LookSetting → Accepts → WordsState → WordsState → LookupState → LookupState → Option (List Event) → Option (List Event) → Type 0
Stops look accepts words words' old new told told' =
    (scheduling : Scheduling) (start : WordsState) (table : TableState) (began : Option (List Event)) (b a : ℕ) → TraceInvariant scheduling look accepts start table began words old b a told → (sends : ℕ) → Ended look accepts start table began words' new.table told' old.lookup.book.journal sends sends

-- the same from where a round begins
abbrev pub StopsRound : Scheduling → LookSetting → Accepts → WordsState → WordsState → LookupState → LookupState → Option (List Event) → Option (List Event) → ℕ → ℕ → Type 0
StopsRound scheduling look accepts words words' old new told told' sends sends' =
    (start : WordsState) (table : TableState) (began : Option (List Event)) → TraceInvariant scheduling look accepts start table began words old look.paths 0 told → Ended look accepts start table began words' new.table told' old.lookup.book.journal sends sends'

-- a lookup that has met fewer strays than it takes
pub record FewMet (look : LookSetting) (accepts : Accepts) (start : WordsState) (table : TableState) (began told' : Option (List Event)) : Type 0 where
  pub meets : MeetsFewStrays look accepts table start began told'
  pub never : look.sealed ≡ false → Grows began told' (NeverEnds (given_of look accepts start) max_strays)

-- the events of a lookup that ends in this round end with the last stray that it takes
abbrev pub RoundEndsByStray : Scheduling → LookSetting → Accepts → WordsState → LookupState → Option (List Event) → Option (List Event) → Type 0
RoundEndsByStray scheduling look accepts words old told told' =
    (start : WordsState) (table : TableState) (began : Option (List Event)) → TraceInvariant scheduling look accepts start table began words old look.paths 0 told → EndsByStrays look accepts table start began told'

-- the events of a lookup that ends in this step end with the last stray that it takes
abbrev pub EndsByStray : LookSetting → Accepts → WordsState → LookupState → Option (List Event) → Option (List Event) → Type 0
EndsByStray look accepts words old told told' =
    (scheduling : Scheduling) (start : WordsState) (table : TableState) (began : Option (List Event)) (b a : ℕ) → TraceInvariant scheduling look accepts start table began words old b a told → EndsByStrays look accepts table start began told'

-- a lookup that ends in this step has met fewer
abbrev pub FewStrays : LookSetting → Accepts → WordsState → LookupState → Option (List Event) → Option (List Event) → Type 0
FewStrays look accepts words old told told' =
    (scheduling : Scheduling) (start : WordsState) (table : TableState) (began : Option (List Event)) (b a : ℕ) → TraceInvariant scheduling look accepts start table began words old b a told → FewMet look accepts start table began told'

-- the same of a lookup that ends in this round
abbrev pub RoundFewStrays : Scheduling → LookSetting → Accepts → WordsState → LookupState → Option (List Event) → Option (List Event) → Type 0
RoundFewStrays scheduling look accepts words old told told' =
    (start : WordsState) (table : TableState) (began : Option (List Event)) → TraceInvariant scheduling look accepts start table began words old look.paths 0 told → FewMet look accepts start table began told'

-- ---- receiving

-- until when a receive waits, by how many the round has had
abbrev pub WaitsFor : ℕ → ℕ → List Query → ℕ → Type 0
WaitsFor n moment queries until = WaitsUntil n moment (map (λ q. q.deadline) queries) until

-- one stray more
pub record TakesStray (old new : Progress) : Type 0 where
  pub after : new ≡ record { moment = old.moment; receives = old.receives; strays = old.strays + 1 }
  pub few : new.strays < max_strays

-- the datagram is a stray: it replies to no open query, and only the count of strays changes
pub record IsStrayFor (look : LookSetting) (accepts : Accepts) (from : Addr) (bytes : List ℕ) (old new : LookupState) : Type 0 where
  pub none : RepliesToNone (quest_of look) accepts from bytes old.lookup
  pub takes : TakesStray old.progress new.progress
  pub lookup : new.lookup ≡ old.lookup
  pub table : new.table ≡ old.table
  pub gathered : new.gathered ≡ old.gathered

-- the last stray that a lookup takes
pub record IsLastStray (look : LookSetting) (accepts : Accepts) (from : Addr) (bytes : List ℕ) (work : LookupState) : Type 0 where
  pub none : RepliesToNone (quest_of look) accepts from bytes work.lookup
  pub last : work.progress.strays + 1 ≡ max_strays

-- the lookup matches it, and what the answer gave beside contacts is kept
pub record IsMatchFor (look : LookSetting) (accepts : Accepts) (from : Addr) (bytes : List ℕ) (old new : LookupState) : Type 0 where
  pub heard : List Answered
  pub matches : IsMatch (quest_of look) accepts from bytes old.lookup new.lookup heard
  pub keeps_for : KeepsFor look.kind heard old.gathered new.gathered
  pub table : new.table ≡ old.table
  pub progress : new.progress ≡ old.progress

-- a datagram is matched to the open query that it replies to (BEP 5), or is a stray
abbrev pub TakesDatagram : LookSetting → Accepts → Addr → List ℕ → LookupState → LookupState → Type 0
TakesDatagram look accepts from bytes old new = IsMatchFor look accepts from bytes old new ⊎ IsStrayFor look accepts from bytes old new

-- before a receive some query is open, and where it begins a round nothing is unsettled and no path may ask
pub record MayReceive (look : LookSetting) (work : LookupState) : Type 0 where
  pub keeps : Keeps look work
  pub some_open : work.lookup.queries ≢ []
  pub in_turn : WaitsInTurn (setting_of look) work.lookup.book.journal work.progress.receives

-- a receive gave a datagram, or the moment that was waited for
pub record ReceivesOne (look : LookSetting) (accepts : Accepts) (old new : LookupState) (told told' : Option (List Event)) : Type 0 where
  pub keeps : Keeps look new
  pub some_open : new.progress.receives ≢ 0 → new.lookup.queries ≢ []
  pub round : (new.progress.receives ≡ 0) ⊎ (new.progress.receives ≡ old.progress.receives + 1)
  pub same_asks : length (asked new.lookup.book.journal) ≡ length (asked old.lookup.book.journal)
  pub same_unsent : unsent new.lookup.book.journal ≡ unsent old.lookup.book.journal
  pub first_lighter : old.progress.receives ≡ 0 → weight_of new < weight_of old
  pub lighter : weight_of new ≤ weight_of old
  pub goes : (words : WordsState) (b a : ℕ) → Preserves look accepts words words old new b a 0 0 told told'

-- the receives of a whole round
pub record ReceivesAll (look : LookSetting) (accepts : Accepts) (old new : LookupState) (told told' : Option (List Event)) : Type 0 where
  pub keeps : Keeps look new
  pub round_over : new.progress.receives ≡ 0
  pub same_asks : length (asked new.lookup.book.journal) ≡ length (asked old.lookup.book.journal)
  pub same_unsent : unsent new.lookup.book.journal ≡ unsent old.lookup.book.journal
  pub lighter : weight_of new < weight_of old
  pub goes : (words : WordsState) (b a : ℕ) → Preserves look accepts words words old new b a 0 0 told told'

-- ---- settling

-- the paths may settle where a round is over
pub record MaySettle (look : LookSetting) (work : LookupState) : Type 0 where
  pub limits : IsWithinLimits look
  pub keeps : Keeps look work
  pub round_over : work.progress.receives ≡ 0

-- the paths from the one to the other were settled
pub record SettlesPaths (scheduling : Scheduling) (look : LookSetting) (from to : ℕ) (old new : LookupState) (told : Option (List Event)) : Type 0 where
  pub keeps : Keeps look new
  pub settled : AllSettled to new.lookup.book.journal
  pub progress : new.progress ≡ old.progress
  pub same_asks : length (asked new.lookup.book.journal) ≡ length (asked old.lookup.book.journal)
  pub same_unsent : unsent new.lookup.book.journal ≡ unsent old.lookup.book.journal
  pub queries : new.lookup.queries ≡ old.lookup.queries
  pub ran : TableRan old.table new.table
  pub goes : (words : WordsState) (a : ℕ) (accepts : Accepts) → PreservesBy scheduling look accepts words words old new from a to a told told

-- all paths were settled, or memory ran out
pub record Settles (scheduling : Scheduling) (look : LookSetting) (old new : LookupState) (settled : Result (Unit {0}) LookFault) : Type 0 where
  pub ok : (told : Option (List Event)) → OnOk settled (SettlesPaths scheduling look 0 look.paths old new told)
  pub stops : (told : Option (List Event)) → OnErr settled ((accepts : Accepts) (words : WordsState) → Stops look accepts words words old new told told)
  pub fault : IfErr settled (λ fault. fault ≡ NoMemory)

-- ---- rounds

-- where a round begins
pub record Begins (look : LookSetting) (words : WordsState) (work : LookupState) : Type 0 where
  pub keeps : Keeps look work
  pub has_words : HasWords words work.lookup.book.journal
  pub round_over : work.progress.receives ≡ 0
  pub settled : AllSettled look.paths work.lookup.book.journal

-- contacts were asked, and the receives of the round are over
pub record HasReceived (look : LookSetting) (accepts : Accepts) (words words' : WordsState) (old new : LookupState) (told told' : Option (List Event)) : Type 0 where
  pub keeps : Keeps look new
  pub has_words : HasWords words' new.lookup.book.journal
  pub round_over : new.progress.receives ≡ 0
  pub lighter : weight_of new < weight_of old
  pub goes : Preserves look accepts words words' old new look.paths 0 0 0 told told'

-- one round more, and the next begins
pub record RoundAlong (scheduling : Scheduling) (look : LookSetting) (accepts : Accepts) (words words' : WordsState) (old new : LookupState) (told told' : Option (List Event)) : Type 0 where
  pub begins : Begins look words' new
  pub lighter : weight_of new < weight_of old
  pub goes : PreservesBy scheduling look accepts words words' old new look.paths 0 look.paths 0 told told'

-- no query is open, nothing is unsettled, and no path may ask
pub record IsOver (scheduling : Scheduling) (look : LookSetting) (accepts : Accepts) (words words' : WordsState) (old new : LookupState) (told told' : Option (List Event)) : Type 0 where
  pub keeps : Keeps look new
  pub none_open : new.lookup.queries ≡ []
  pub settled : AllSettled look.paths new.lookup.book.journal
  pub none_asks : NoneAsks (setting_of look) look.paths new.lookup.book.journal
  pub goes : PreservesBy scheduling look accepts words words' old new look.paths 0 look.paths look.paths told told'

-- what the book that has run out found
pub record IsDone (book : BookState) (outcome : Outcome) : Type 0 where
  pub journal : outcome.journal ≡ book.journal
  pub legal : Legal book.setting outcome.journal
  pub run_out : (p : ℕ) → p < book.setting.paths → RunOut book.setting p outcome.journal
  pub found : outcome.found ≡ result_of book.setting outcome.journal
  pub counted : Counted outcome.journal outcome.counts

-- what a lookup answers, where its rounds ended well
pub record IsClosed (work : LookupState) (ended : Result (Unit {0}) LookFault) (outcome : Outcome) : Type 0 where
  pub well : IsOk ended
  pub done : IsDone work.lookup.book outcome
  pub peers : IsEachOnce work.gathered.peers outcome.peers
  pub tokens : outcome.tokens ≡ work.gathered.tokens
  pub items : outcome.items ≡ work.gathered.items

-- a book that begins with the closest contacts of the table
pub record IsBookOf (look : LookSetting) (table : TableState) (book : BookState) : Type 0 where
  pub setting : book.setting ≡ setting_of look
  pub journal : book.journal ≡ seeds_dealt look table
  pub legal : Legal book.setting book.journal

-- the call for the seeds
abbrev pub asks_seeds : LookSetting → List Told
asks_seeds look = record { role = 0; call = Closest look.target look.k } ∷ []

-- where a lookup begins, at this moment
pub record IsBegun (book : BookState) (table : TableState) (moment : ℕ) (work : LookupState) : Type 0 where
  pub book_is : work.lookup.book ≡ book
  pub table_is : work.table ≡ table
  pub none_open : work.lookup.queries ≡ []
  pub progress : work.progress ≡ record { moment = moment; receives = 0; strays = 0 }
  pub no_peers : work.gathered.peers ≡ []
  pub no_tokens : work.gathered.tokens ≡ []
  pub no_items : work.gathered.items ≡ []
