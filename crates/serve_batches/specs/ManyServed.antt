-- What is known of a node that serves by workers.
use Rattle.std.specs.Prelude.{◌≡◌, ◌⊎◌, ℕ, ◌<◌, true, List, [], ◌++◌, Option}
use Rattle.std.specs.List.{All}
use Rattle.kad_base.specs.declared.types.Event.{Event}
use Rattle.contact_table.specs.TableState.{TableState}
use Rattle.node_serve.specs.Lasting.{end_of, is_over}
use Rattle.node_serve.specs.Receives.{got_in, sent_in}
use Rattle.node_serve.specs.Sealing.{Tags}
use Rattle.node_serve.specs.declared.lasting.Lasting.{Lasting}
use Rattle.node_serve.specs.declared.service.ServeFault.{ServeFault}
use Rattle.node_serve.specs.declared.service.ServeFault.TheVariants.{LinkFault, NoMemory}
use Rattle.node_serve.specs.declared.setting.ServeSetting.{ServeSetting}
use Rattle.serve_crew.specs.Runs.{Ran, HadAllMemory, AreCalls, AreFirstCalls}
use Rattle.serve_batches.specs.Batches.{Done, IsDone, Batches, IsCutOff, IsUnanswered, calls_for}

-- What n workers did from a moment on for as long as they last: these are batches, each datagram of which was answered as its
-- calls and their replies say, and was answered by the worker whose turn it was. No receive is left, or the moment told last is
-- at the end or behind it. So many datagrams came, and so many replies were sent.
pub record ManyServed (tag_of : Tags) (s : ServeSetting) (n began : ℕ) (lasting : Lasting) (before after : TableState) (received replied : ℕ) (events : List Event) : Type 0 where
  pub ran : Ran n before after
  pub memory : HadAllMemory n before after ran
  pub batches : List (List Done)
  pub left : ℕ
  pub end : ℕ
  pub are : Batches (end_of began lasting.minutes) lasting.receives began batches events left end
  pub ended : (left ≡ 0) ⊎ (is_over (end_of began lasting.minutes) end ≡ true)
  pub done : All (All (IsDone tag_of s)) batches
  pub each : (w : ℕ) → w < n → AreCalls n before after ran w (calls_for n w batches)
  pub received_are : received ≡ got_in events
  pub replied_are : replied ≡ sent_in events

-- how it ends early, where so many receives are left: the link failed at a receive of a batch; or there was no memory, before the
-- first batch or for an answer of one whose replies weren't sent
abbrev pub EndsEarly : ServeFault → Option ℕ → ℕ → ℕ → List Event → Type 0
EndsEarly LinkFault limit left moment last = IsCutOff limit left moment last
EndsEarly NoMemory limit left moment last = (last ≡ []) ⊎ IsUnanswered limit left moment last

-- Some whole batches, with their replies; then at most one that breaks off. The table that came back is the one after the calls
-- of all.
pub record ManyBegun (tag_of : Tags) (s : ServeSetting) (n began : ℕ) (lasting : Lasting) (before after : TableState) (fault : ServeFault) (events : List Event) : Type 0 where
  pub ran : Ran n before after
  pub batches : List (List Done)
  pub front : List Event
  pub left : ℕ
  pub moment : ℕ
  pub are : Batches (end_of began lasting.minutes) lasting.receives began batches front left moment
  pub done : All (All (IsDone tag_of s)) batches
  pub each : (w : ℕ) → w < n → AreFirstCalls n before after ran w (calls_for n w batches)
  pub last : List Event
  pub whole : events ≡ front ++ last
  pub ended : EndsEarly fault (end_of began lasting.minutes) left moment last
