-- What the rounds of several lookups owe, from where they began.
use Rattle.std.specs.Prelude.{◌≡◌, ℕ, ◌<◌, ◌≤◌, List, [], ◌++◌, length, Option, true}
use Rattle.std.specs.List.{All, AllByRecursion, AllZip}
use Rattle.kad_base.specs.declared.types.Event.{Event}
use Rattle.kad_base.specs.declared.serial.Made.{Made}
use Rattle.kad_base.specs.Limits.{max_lookups, max_strays}
use Rattle.id_puzzles.specs.Drawn.{WordsState}
use Rattle.turn_book.specs.Turns.{mine}
use Rattle.contact_table.specs.Told.{HasMemory, calls_in, seen_calls}
use Rattle.contact_table.specs.declared.calls.TableCall.{TableCall}
use Rattle.contact_table.specs.declared.calls.TableReply.{TableReply}
use Rattle.claim_book.specs.declared.types.Entry.{Entry}
use Rattle.claim_book.specs.Journal.{seeds}
use Rattle.lookup_core.specs.declared.quest.AskKind.TheVariants.{FindNode}
use Rattle.lookup_core.specs.Sealed.{Accepts}
use Rattle.node_serve.specs.declared.setting.ServeSetting.{ServeSetting}
use Rattle.node_serve.specs.Sealing.{Tags}
use Rattle.serve_crew.specs.Hands.{Hands, SamePass, SameHands}
use Rattle.lookup_crowd.specs.declared.seeker.Seeker.{Seeker}
use Rattle.lookup_crowd.specs.declared.seeker.ManyFault.{ManyFault}
use Rattle.lookup_crowd.specs.declared.seeker.ManyFault.TheVariants.{Strays}
use Rattle.lookup_crowd.specs.Errands.{noted, drawn_by}
use Rattle.lookup_crowd.specs.inner.Crowd.{Holding, IsLegal, NoneAsks, queries_of, Stand, Advances}
use Rattle.lookup_crowd.specs.inner.ManySteps.{HasCounted, IsReady, MayAskAll, HasWords, Stops, EndsByForeign, RanOn}

-- ---- a lookup, since it began

-- its journal is longer, and has no seed more; else it is the same, and calls by the same pass
pub record Lives (old new : Seeker) : Type 0 where
  pub quest : new.quest ≡ old.quest
  pub setting : new.lookup.book.setting ≡ old.lookup.book.setting
  pub more : List Entry
  pub journal : new.lookup.book.journal ≡ old.lookup.book.journal ++ more
  pub no_seeds : seeds more ≡ []
  pub gathered : old.quest.kind ≡ FindNode → new.gathered ≡ old.gathered
  pub same : SamePass old.pass new.pass

-- and the table was told of each contact that it notes as having answered, in order, and of no other
pub record Goes (old new : Seeker) : Type 0 where
  pub lives : Lives old new
  pub told : List (Made TableCall TableReply)
  pub grew : mine new.pass ≡ mine old.pass ++ told
  pub calls : calls_in told ≡ seen_calls (noted lives.more)
  pub memory : All (λ m. HasMemory m.reply) told

-- ---- all of them

-- what holds of all since they began
pub record HaveGone (accepts : Accepts) (tags : Tags) (server : ServeSetting) (old new : Stand) (owners owners' : List ℕ) : Type 0 where
  pub made : List ℕ
  pub advances : Advances true made accepts tags server old new
  pub owners_are : owners' ≡ owners ++ made
  pub drawn : new.words ≡ drawn_by old.words made
  pub same : SameHands old.host new.host
  pub each : AllZip Goes old.seekers new.seekers

-- where a round begins
pub record Begins (s : Stand) : Type 0 where
  pub may : MayAskAll s.seekers s.progress s.words
  pub round_over : s.progress.receives ≡ 0
  pub few_foreign : s.progress.foreign < max_strays

-- the receives of a round were made
pub record HaveReceived (s : Stand) : Type 0 where
  pub holds : AllByRecursion Holding s.seekers
  pub ready : AllByRecursion (IsReady s.progress.moment) s.seekers
  pub few : length s.seekers ≤ max_lookups
  pub has_words : HasWords s.words s.seekers
  pub counted : HasCounted s.seekers s.progress
  pub round_over : s.progress.receives ≡ 0
  pub few_foreign : s.progress.foreign < max_strays

-- no query is open, and every path of each has run out
pub record AreOver (s : Stand) : Type 0 where
  pub begins : Begins s
  pub none_open : queries_of s.seekers ≡ []
  pub none_asks : AllByRecursion NoneAsks s.seekers

-- ---- ended early

-- they went on to a last stand that the events show, and the node that serves perhaps beyond it
pub record EndGoing (fault : ManyFault) (accepts : Accepts) (tags : Tags) (server : ServeSetting) (old : Stand) (words' : WordsState) (host' : Hands) (told' : Option (List Event)) : Type 0 where
  pub last : Stand
  pub made : List ℕ
  pub advances : Advances true made accepts tags server old last
  pub drawn : words' ≡ drawn_by old.words made
  pub same : SameHands old.host last.host
  pub legal : AllByRecursion IsLegal last.seekers
  pub each : AllZip Lives old.seekers last.seekers
  pub stops : Stops true fault accepts tags server last told'
  pub strays : fault ≡ Strays → EndsByForeign true accepts tags server last told'
  pub ran_on : RanOn last.host host'

-- the passes of all lookups are those that they had
abbrev pub SameSeats : List Seeker → List Seeker → Type 0
SameSeats olds news = AllZip (λ old new. SamePass old.pass new.pass) olds news
