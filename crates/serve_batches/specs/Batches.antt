-- Batches of datagrams: how the receives of a link make them, what becomes of each datagram, and what is sent behind them.
-- A batch is this project's own: several workers answer its datagrams at once.
use Rattle.std.specs.Prelude.{◌≡◌, ℕ, ◌+◌, ◌<◌, ◌≤◌, min, Bool, true, false, List, [], ◌∷◌, ◌++◌, length, map, Option, Some, None}
use Rattle.std.specs.List.{All, flat_map}
use Rattle.kad_base.specs.declared.types.Addr.{Addr}
use Rattle.kad_base.specs.declared.types.Event.{Event}
use Rattle.kad_base.specs.declared.types.Event.TheVariants.{Got, Quiet}
use Rattle.serve_batches.specs.Deal.{dealt}
use Rattle.node_serve.specs.Calls.{Did}
use Rattle.node_serve.specs.Queries.{IsSilent}
use Rattle.node_serve.specs.Lasting.{is_over, waits_to}
use Rattle.node_serve.specs.Receives.{tried}
use Rattle.node_serve.specs.Sealing.{Tags}
use Rattle.node_serve.specs.declared.setting.ServeSetting.{ServeSetting}
use Rattle.serve_crew.specs.Answered.{IsReply}

-- ---- what came

-- a datagram that came, from where, and when
pub record Datagram : Type 0 where
  pub from : Addr
  pub bytes : List ℕ
  pub at : ℕ

-- the most receives of a batch
abbrev pub max_batch : ℕ
max_batch = 32

-- the receives that gave these datagrams: the first waited until a moment, and each further one until the moment told last,
-- so that it doesn't wait
abbrev pub receives_of : ℕ → List Datagram → List Event
receives_of until [] = []
receives_of until (d ∷ ds) = Got d.from d.bytes until d.at ∷ receives_of d.at ds

-- until when the receive behind them waits
abbrev pub waits_after : ℕ → List Datagram → ℕ
waits_after until [] = until
waits_after until (d ∷ ds) = waits_after d.at ds

-- it came before the end of the service
abbrev pub IsInTime : Option ℕ → Datagram → Type 0
IsInTime limit d = is_over limit d.at ≡ false

-- The receives of a batch, of which so many are left in all, behind this moment: the first waits for a minute, but to the end
-- of the service at most. They end with the first that gives nothing, and with the first datagram that comes at the end or
-- behind it; else there are as many as a batch may have and as are left.
pub data Receives (limit : Option ℕ) (left moment : ℕ) (came : List Datagram) (events : List Event) (made end : ℕ) : Type 0 where
  quiet : length came < min left max_batch → All (IsInTime limit) came → events ≡ receives_of (waits_to limit moment) came ++ Quiet (waits_after (waits_to limit moment) came) end ∷ []
      → made ≡ length came + 1 → Receives limit left moment came events made end
  full : length came ≡ min left max_batch → All (IsInTime limit) came → events ≡ receives_of (waits_to limit moment) came → made ≡ length came
      → end ≡ waits_after (waits_to limit moment) came → Receives limit left moment came events made end
  over : (before : List Datagram) (last : Datagram) → came ≡ before ++ last ∷ [] → length came ≤ min left max_batch → All (IsInTime limit) before → is_over limit last.at ≡ true
      → events ≡ receives_of (waits_to limit moment) came → made ≡ length came → end ≡ last.at → Receives limit left moment came events made end

-- ---- what became of it

-- a datagram, the calls that were made for it, each with its reply, and the text that answers it, where an answer is owed
pub record Done : Type 0 where
  pub datagram : Datagram
  pub did : List Did
  pub reply : Option (List ℕ)

-- no answer is owed, and no call was made; or the calls are the datagram's, and the text is made of their replies
abbrev pub IsAnsweredBy : Tags → ServeSetting → Datagram → List Did → Option (List ℕ) → Type 0
IsAnsweredBy tag_of s d did None = IsSilent d.from d.bytes × (did ≡ [])
IsAnsweredBy tag_of s d did (Some text) = IsReply tag_of s d.from d.bytes d.at text did

abbrev pub IsDone : Tags → ServeSetting → Done → Type 0
IsDone tag_of s d = IsAnsweredBy tag_of s d.datagram d.did d.reply

-- what is sent for a datagram: its reply to its source, which went out or was refused by the link
abbrev pub sent_for : Bool → Addr → Option (List ℕ) → List Event
sent_for was_sent to None = []
sent_for was_sent to (Some text) = tried was_sent to text ∷ []

-- what is sent for datagrams, in their order: for each that is owed a reply this one
abbrev pub Replies : List Done → List Event → Type 0
Replies [] events = events ≡ []
Replies (d ∷ ds) events = (was_sent : Bool) × (more : List Event) × (events ≡ sent_for was_sent d.datagram.from d.reply ++ more) × Replies ds more

-- ---- batches

-- One batch, where so many receives are left, behind this moment, at which the service isn't over: its receives, and then the
-- replies to what came. It leaves so many receives, and this is the moment told last.
pub record IsBatch (limit : Option ℕ) (left moment : ℕ) (batch : List Done) (events : List Event) (left' end : ℕ) : Type 0 where
  pub some : 0 < left
  pub goes : is_over limit moment ≡ false
  pub made : ℕ
  pub receives : List Event
  pub replies : List Event
  pub received : Receives limit left moment (map (λ d. d.datagram) batch) receives made end
  pub replied : Replies batch replies
  pub whole : events ≡ receives ++ replies
  pub left_are : left' + made ≡ left

-- batches, one after another
abbrev pub Batches : Option ℕ → ℕ → ℕ → List (List Done) → List Event → ℕ → ℕ → Type 0
Batches limit left moment [] events left' end = (events ≡ []) × (left' ≡ left) × (end ≡ moment)
Batches limit left moment (b ∷ bs) events left' end =
    (one : List Event) × (mid : ℕ) × (told : ℕ) × (more : List Event) × (events ≡ one ++ more) × IsBatch limit left moment b one mid told
    × Batches limit mid told bs more left' end

-- what the worker w of n does of all batches, in order: its datagrams are those of the places j of each batch with j mod n = w
abbrev pub done_by : ℕ → ℕ → List (List Done) → List Done
done_by n w batches = flat_map (dealt n w) batches

abbrev pub calls_for : ℕ → ℕ → List (List Done) → List Did
calls_for n w batches = flat_map (λ d. d.did) (done_by n w batches)

-- a batch that lacks receives and its replies, since a receive failed
pub record IsCutOff (limit : Option ℕ) (left moment : ℕ) (events : List Event) : Type 0 where
  pub goes : is_over limit moment ≡ false
  pub came : List Datagram
  pub in_time : All (IsInTime limit) came
  pub few : length came < min left max_batch
  pub are : events ≡ receives_of (waits_to limit moment) came

-- a batch that lacks its replies
pub record IsUnanswered (limit : Option ℕ) (left moment : ℕ) (events : List Event) : Type 0 where
  pub some : 0 < left
  pub goes : is_over limit moment ≡ false
  pub came : List Datagram
  pub made : ℕ
  pub end : ℕ
  pub received : Receives limit left moment came events made end
