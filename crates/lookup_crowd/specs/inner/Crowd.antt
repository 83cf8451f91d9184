-- Where several lookups stand between two calls on their link: what the events showed, what each keeps, and what the node that
-- serves has done.
use Rattle.std.specs.Prelude.{◌≡◌, ◌≢◌, ℕ, ◌+◌, ◌-◌, ◌<◌, ◌≤◌, List, [], ◌∷◌, ◌++◌, Contains, length, map, Option, None, Bool, false, cond}
use Rattle.std.specs.List.{All, AllZip, flat_map}
use Rattle.kad_base.specs.declared.types.Contact.{Contact}
use Rattle.kad_base.specs.declared.types.Event.{Event}
use Rattle.kad_base.specs.declared.types.Event.TheVariants.{Now}
use Rattle.kad_base.specs.Outside.{Grows}
use Rattle.id_puzzles.specs.Drawn.{WordsState}
use Rattle.query_book.specs.declared.Query.{Query}
use Rattle.claim_book.specs.declared.types.Entry.{Entry}
use Rattle.claim_book.specs.Legal.{Legal}
use Rattle.claim_book.specs.Journal.{asked, may_ask, unsettled}
use Rattle.lookup_core.specs.declared.quest.AskKind.TheVariants.{FindNode}
use Rattle.lookup_core.specs.Gathered.{Keeping}
use Rattle.lookup_core.specs.LookupSteps.{as_open, Holds}
use Rattle.lookup_core.specs.Matching.{OpenQuery}
use Rattle.lookup_core.specs.Sealed.{Accepts}
use Rattle.lookup_core.specs.SendFaults.{unsent, IsCounted}
use Rattle.node_serve.specs.declared.setting.ServeSetting.{ServeSetting}
use Rattle.node_serve.specs.Calls.{Did, HadMemory}
use Rattle.node_serve.specs.Sealing.{Tags}
use Rattle.serve_crew.specs.Hands.{Hands, Grew}
use Rattle.lookup_crowd.specs.declared.due.FollowUp.{FollowUp}
use Rattle.lookup_crowd.specs.declared.seeker.Seeker.{Seeker}
use Rattle.lookup_crowd.specs.declared.seeker.Progress.{Progress}
use Rattle.lookup_crowd.specs.declared.seeker.Driver.{Driver}
use Rattle.lookup_crowd.specs.Mine.{Mine, Whose, driven}
use Rattle.lookup_crowd.specs.Errands.{Errand, did_of, answer_in, loss_in}
use Rattle.lookup_crowd.specs.Many.{Frame, Owed, Shown, Reading, and_then, GivesFrom, begun}

-- ---- each lookup

-- a lookup as events are read for it
abbrev pub whose : Seeker → Whose
whose k = record { setting = k.lookup.book.setting; quest = k.quest; journal = k.lookup.book.journal }

-- its open queries, with their paths
abbrev pub opens : Seeker → List OpenQuery
opens k = map (as_open k.lookup.book.journal) k.lookup.queries

-- its open contacts are those of its open queries, in order
abbrev pub Holding : Seeker → Type 0
Holding k = Holds k.lookup

-- none of its paths may ask
abbrev pub NoneAsks : Seeker → Type 0
NoneAsks k = (p : ℕ) → p < k.lookup.book.setting.paths → may_ask k.lookup.book.setting p k.lookup.book.journal ≡ None

-- a longer journal, and else the same; what it gathered may be more where more than contacts is asked for
pub record Longer (old new : Seeker) : Type 0 where
  pub more : List Entry
  pub quest : new.quest ≡ old.quest
  pub setting : new.lookup.book.setting ≡ old.lookup.book.setting
  pub journal : new.lookup.book.journal ≡ old.lookup.book.journal ++ more
  pub gathered : old.quest.kind ≡ FindNode → new.gathered ≡ old.gathered

-- its book's journal is legal
abbrev pub IsLegal : Seeker → Type 0
IsLegal k = Legal k.lookup.book.setting k.lookup.book.journal

-- its journal has more entries of the driver alone
pub record DrivenOn (old new : Seeker) : Type 0 where
  pub more : List Entry
  pub journal : new.lookup.book.journal ≡ old.lookup.book.journal ++ more
  pub all_driven : driven more ≡ more

-- no query more is open, nobody more was asked, and nobody more lost to a refused send
pub record OnlyHeard (old new : Seeker) : Type 0 where
  pub fewer : (q : Query) → Contains new.lookup.queries q → Contains old.lookup.queries q
  pub same_asks : asked new.lookup.book.journal ≡ asked old.lookup.book.journal
  pub same_unsent : unsent new.lookup.book.journal ≡ unsent old.lookup.book.journal

-- nothing is left to settle on any of its paths
abbrev pub NothingLeft : Seeker → Type 0
NothingLeft k = (p : ℕ) → p < k.lookup.book.setting.paths → unsettled p k.lookup.book.journal ≡ []

-- it tells the table by the same pass, which made no call
abbrev pub SameSeat : Seeker → Seeker → Type 0
SameSeat old new = new.pass ≡ old.pass

-- how many contacts all have asked
abbrev pub asks_of : List Seeker → ℕ
asks_of [] = 0
asks_of (k ∷ ks) = length (asked k.lookup.book.journal) + asks_of ks

-- how many contacts all have lost to refused sends
abbrev pub lost_of : List Seeker → ℕ
lost_of [] = 0
lost_of (k ∷ ks) = length (unsent k.lookup.book.journal) + lost_of ks

-- so many more were lost so, and the link counted each, and perhaps replies that it refused
pub record LosesMore (old new : List Seeker) (before after : ℕ) : Type 0 where
  pub number : ℕ
  pub more : lost_of new ≡ lost_of old + number
  pub counted : IsCounted number before after
  pub no_less : before ≤ after

-- the open queries of all
abbrev pub queries_of : List Seeker → List Query
queries_of ks = flat_map (λ k. k.lookup.queries) ks

-- the lookup keeps of the events just this
pub record KeepsMine (k : Seeker) (m : Mine) : Type 0 where
  pub queries : m.queries ≡ opens k
  pub given : m.given ≡ driven k.lookup.book.journal
  pub gathered : Keeping k.quest.kind m.heard k.gathered

-- ---- all of them

-- and who drives them just this; `left` is how many receives are still wanted, and `ends` when serving on ends by time
pub record KeepsProgress (f : Frame) (progress : Progress) (place : ℕ) (owed : Option Owed) (s : Shown) : Type 0 where
  pub moment : s.moment ≡ progress.moment
  pub ends : s.ends ≡ progress.end
  pub sends : f.place + s.sends ≡ place
  pub got : s.got ≡ progress.received
  pub foreign : s.foreign ≡ progress.foreign
  pub replied : s.replied ≡ progress.replied
  pub receives : s.receives ≡ progress.receives
  pub left : f.wanted - s.made ≡ progress.left
  pub owed_is : s.owed ≡ owed

-- and of the follow-ups: how many are left; none is owed a receive unless there are some
pub record KeepsSaying (busy : Bool) (follows : List FollowUp) (progress : Progress) (s : Shown) : Type 0 where
  pub within : s.followed ≤ length follows
  pub left : length follows - s.followed ≡ progress.unsaid
  pub some : busy ≡ false → progress.receives ≢ 0 → 0 < length follows

-- while lookups are open no receive is made for others and no follow-up goes out, so their journals may grow
abbrev pub framed : Bool → Frame → Frame
framed busy f = record f { wanted = cond busy 0 f.wanted; follows = cond busy [] f.follows }

-- the events show where all lookups stand, and which reply is owed; `busy` while lookups may ask or wait
pub record ManyShow (busy : Bool) (f : Frame) (count : ℕ) (ks : List Seeker) (progress : Progress) (place : ℕ) (owed : Option Owed) (read : Reading) (events : List Event) : Type 0 where
  pub at : ℕ
  pub rest : List Event
  pub first : events ≡ Now at ∷ rest
  pub end : Shown
  pub walk : GivesFrom (framed busy f) (map whose ks) (begun f.minutes count at) rest end read
  pub keeps_progress : KeepsProgress f progress place owed end
  pub keeps_each : AllZip KeepsMine ks end.each
  pub keeps_saying : KeepsSaying busy (cond busy [] f.follows) progress end

-- ---- the node that serves

-- its calls since were just these, in some order: those of the foreign datagrams, and one for each contact that was lost
pub record Ran (old new : Hands) (did : List Did) (lost : List Contact) : Type 0 where
  pub errands : List Errand
  pub grew : Grew old new (map did_of errands)
  pub answers : flat_map answer_in errands ≡ did
  pub losses : flat_map loss_in errands ≡ lost
  pub memory : All HadMemory did

-- ---- going on

-- where all stand: the lookups, their link, the words, the node that serves and what was told
pub record Stand : Type 0 where
  pub seekers : List Seeker
  pub progress : Progress
  pub words : WordsState
  pub host : Hands
  pub told : Option (List Event)

abbrev pub stand : List Seeker → Progress → WordsState → Hands → Option (List Event) → Stand
stand seekers progress words host told = record { seekers = seekers; progress = progress; words = words; host = host; told = told }

-- where they stand under this driver
abbrev pub standing : List Seeker → Driver → WordsState → Option (List Event) → Stand
standing seekers driver words told = stand seekers driver.progress words driver.host told

-- what the lookups share is this
pub record IsFrame (accepts : Accepts) (tags : Tags) (server : ServeSetting) (seed : List ℕ) (f : Frame) : Type 0 where
  pub accepts_is : f.accepts ≡ accepts
  pub tags_is : f.tags ≡ tags
  pub server_is : f.server ≡ server
  pub seed_is : f.seed ≡ seed

-- Whatever the events showed since any beginning they go on to show; what is read of them grew by `more`, and so did the calls
-- of the node that serves. The queries that were sent since, or failed to be, have these owners, and none was a follow-up.
pub record Advances (busy : Bool) (made : List ℕ) (accepts : Accepts) (tags : Tags) (server : ServeSetting) (old new : Stand) : Type 0 where
  pub more : Reading
  pub owners_are : more.owners ≡ made
  pub none_told : more.told ≡ []
  pub goes : (f : Frame) (count : ℕ) (read : Reading) (began : Option (List Event)) → IsFrame accepts tags server old.words.seed f
      → Grows began old.told (λ events. ManyShow busy f count old.seekers old.progress old.words.place None read events)
      → Grows began new.told (λ events. ManyShow busy f count new.seekers new.progress new.words.place None (and_then read more) events)
  pub ran : Ran old.host new.host more.did more.lost
  pub seed : new.words.seed ≡ old.words.seed
