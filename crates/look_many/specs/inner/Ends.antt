-- What several lookups leave, with all passes put back.
use Rattle.std.specs.Prelude.{◌≡◌, ℕ, List, [], ◌∷◌, length, map, Option}
use Rattle.std.specs.List.{AllZip, range_with_len}
use Rattle.kad_base.specs.declared.types.Event.{Event}
use Rattle.kad_base.specs.declared.types.Event.TheVariants.{Now}
use Rattle.kad_base.specs.Outside.{Grows}
use Rattle.id_puzzles.specs.Drawn.{WordsState}
use Rattle.turn_book.specs.Turns.{fresh}
use Rattle.lookup_core.specs.Sealed.{Accepts}
use Rattle.node_serve.specs.declared.lasting.Lasting.{Lasting}
use Rattle.node_serve.specs.declared.setting.ServeSetting.{ServeSetting}
use Rattle.node_serve.specs.Lasting.{end_of}
use Rattle.node_serve.specs.Sealing.{Tags}
use Rattle.serve_crew.specs.Hands.{Hands, SameHands}
use Rattle.serve_crew.specs.declared.turns.Turns.{Turns}
use Rattle.serve_crew.specs.declared.turns.Rows.{Rows}
use Rattle.lookup_crowd.specs.declared.seeker.Seeker.{Seeker}
use Rattle.lookup_crowd.specs.declared.seeker.ManyFault.{ManyFault}
use Rattle.lookup_crowd.specs.inner.Crowd.{Stand}
use Rattle.look_many.specs.declared.found.ManySetting.{ManySetting}
use Rattle.look_many.specs.declared.found.Many.{Many}
use Rattle.look_many.specs.declared.job.Job.{Job}
use Rattle.look_many.specs.ManyLooked.{AreSent}
use Rattle.look_many.specs.inner.Going.{WentWhole, EndsWhole}
use Rattle.look_many.specs.inner.Seats.{IsSeekerFor, IsDone, IsHanded, AreBack, new_host}

-- what all were given
pub record Task : Type 0 where
  pub accepts : Accepts
  pub tags : Tags
  pub server : ServeSetting
  pub setting : ManySetting
  pub jobs : List Job
  pub lasting : Lasting

abbrev pub task : Accepts → Tags → ServeSetting → ManySetting → List Job → Lasting → Task
task accepts tags server setting jobs lasting = record { accepts = accepts; tags = tags; server = server; setting = setting; jobs = jobs; lasting = lasting }

-- where they begin: each with its book and a pass that made no call, the moment was told, and nothing else was done
pub record Starts (k : Task) (turns : Turns) (words : WordsState) (told : Option (List Event)) (s : Stand) : Type 0 where
  pub seekers : AllZip (IsSeekerFor k.server k.setting turns.table.start) k.jobs s.seekers
  pub passes : map (λ x. x.pass) s.seekers ≡ map (fresh turns.table.id) (range_with_len 1 (length k.jobs))
  pub host : s.host ≡ new_host turns
  pub progress : s.progress ≡ record { moment = s.progress.moment; receives = 0; foreign = 0; left = k.lasting.receives; end = end_of s.progress.moment k.lasting.minutes; received = 0; replied = 0; unsaid = 0 }
  pub words_are : s.words ≡ words
  pub now_told : Grows told s.told (λ events. events ≡ Now s.progress.moment ∷ [])

-- all are over, and this is what they found
pub record FoundBack (k : Task) (turns : Turns) (rows : Rows) (words words' : WordsState) (told told' : Option (List Event)) (many : Many) : Type 0 where
  pub old : Stand
  pub new : Stand
  pub owners : List ℕ
  pub said : List ℕ
  pub starts : Starts k turns words told old
  pub went : WentWhole k.accepts k.tags k.server k.jobs old new owners said
  pub same : SameHands old.host new.host
  pub back : AreBack rows new.host new.seekers
  pub told_is : new.told ≡ told'
  pub words_are : new.words ≡ words'
  pub found : AllZip (λ x one. IsDone x.lookup.book one) new.seekers many.outcomes
  pub handed : AllZip (λ x one. IsHanded x.gathered one) new.seekers many.outcomes
  pub sent_are : AreSent said 0 many.outcomes
  pub owners_are : many.owners ≡ owners
  pub received_are : many.received ≡ new.progress.received
  pub replied_are : many.replied ≡ new.progress.replied

-- they ended early
pub record StoppedBack (k : Task) (turns : Turns) (rows : Rows) (words words' : WordsState) (told told' : Option (List Event)) (fault : ManyFault) : Type 0 where
  pub old : Stand
  pub starts : Starts k turns words told old
  pub host : Hands
  pub seekers : List Seeker
  pub len : length seekers ≡ length old.seekers
  pub ends : EndsWhole fault k.accepts k.tags k.server k.jobs old words' host told'
  pub back : AreBack rows host seekers
