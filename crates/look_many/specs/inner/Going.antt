-- What the rounds of several lookups owe, from where they began.
use Rattle.std.specs.Prelude.{◌≡◌, ◌⊎◌, ℕ, List, [], Option, None, Bool, true, false}
use Rattle.std.specs.List.{AllByRecursion, AllZip}
use Rattle.kad_base.specs.declared.types.Event.{Event}
use Rattle.kad_base.specs.Limits.{max_strays}
use Rattle.kad_base.specs.Outside.{Grows}
use Rattle.id_puzzles.specs.Drawn.{WordsState}
use Rattle.lookup_core.specs.Sealed.{Accepts}
use Rattle.node_serve.specs.declared.setting.ServeSetting.{ServeSetting}
use Rattle.node_serve.specs.Sealing.{Tags}
use Rattle.serve_crew.specs.Hands.{Hands, SameHands}
use Rattle.lookup_crowd.specs.declared.due.FollowUp.{FollowUp}
use Rattle.lookup_crowd.specs.declared.seeker.ManyFault.{ManyFault}
use Rattle.lookup_crowd.specs.declared.seeker.ManyFault.TheVariants.{Strays}
use Rattle.lookup_crowd.specs.Many.{Frame, Reading, nothing_read}
use Rattle.lookup_crowd.specs.Errands.{drawn_by}
use Rattle.lookup_crowd.specs.inner.Crowd.{IsLegal, queries_of, ManyShow, Ran, Stand, IsFrame}
use Rattle.lookup_crowd.specs.inner.ManySteps.{IsRunOut, ShowsEarly, ShowsForeign, RanOn}
use Rattle.lookup_crowd.specs.inner.Going.{Lives, Goes}
use Rattle.look_many.specs.declared.job.Job.{Job}
use Rattle.look_many.specs.inner.Kept.{follows_kept}
use Rattle.look_many.specs.inner.Serving.{HasEnough}

-- ---- from the first event to the last

-- what the events show of lookups since they began, with these follow-ups: from the beginning `began` on, read from nothing
abbrev pub SinceBegun : Accepts → Tags → ServeSetting → List FollowUp → Stand → Option (List Event) → (Frame → ℕ → List Event → Type 0) → Type 0
SinceBegun accepts tags server follows old told' P =
    (f : Frame) (count : ℕ) (began : Option (List Event)) → IsFrame accepts tags server old.words.seed f → f.follows ≡ follows
    → Grows began old.told (λ events. ManyShow true f count old.seekers old.progress old.words.place None nothing_read events)
    → Grows began told' (λ events. P f count events)

-- all lookups are over, all follow-ups went out, and then as many receives were made as are wanted, or the end by time has come
pub record WentWhole (accepts : Accepts) (tags : Tags) (server : ServeSetting) (jobs : List Job) (old new : Stand) (owners said : List ℕ) : Type 0 where
  pub read : Reading
  pub follows : List FollowUp
  pub planned : follows ≡ follows_kept server.own 0 jobs new.seekers
  pub shows : SinceBegun accepts tags server follows old new.told (λ f count events. ManyShow false f count new.seekers new.progress new.words.place None read events)
  pub owners_are : owners ≡ read.owners
  pub said_are : said ≡ read.told
  pub drawn : new.words ≡ drawn_by old.words read.owners
  pub ran : Ran old.host new.host read.did read.lost
  pub each : AllZip Goes old.seekers new.seekers
  pub legal : AllByRecursion IsLegal new.seekers
  pub over : AllByRecursion IsRunOut new.seekers
  pub none_open : queries_of new.seekers ≡ []
  pub all_said : new.progress.unsaid ≡ 0
  pub enough : HasEnough new.progress

-- they ended early: the events, perhaps without the last, show a last stand, and the node that serves perhaps went beyond it
pub record EndsWhole (fault : ManyFault) (accepts : Accepts) (tags : Tags) (server : ServeSetting) (jobs : List Job) (old : Stand) (words' : WordsState) (host' : Hands) (told' : Option (List Event)) : Type 0 where
  pub busy : Bool
  pub last : Stand
  pub read : Reading
  pub follows : List FollowUp
  pub planned : (busy ≡ true) ⊎ (follows ≡ follows_kept server.own 0 jobs last.seekers)
  pub shows : SinceBegun accepts tags server follows old told' (λ f count events. ShowsEarly busy fault f count last read events)
  pub strays : fault ≡ Strays → SinceBegun accepts tags server follows old told' (λ f count events. ShowsForeign busy f count last read max_strays events)
  pub drawn : words' ≡ drawn_by old.words read.owners
  pub same : SameHands old.host last.host
  pub ran : Ran old.host last.host read.did read.lost
  pub ran_on : RanOn last.host host'
  pub legal : AllByRecursion IsLegal last.seekers
  pub each : AllZip Lives old.seekers last.seekers
