-- What the follow-ups owe, which go out where all lookups are over.
use Rattle.std.specs.Prelude.{◌≡◌, ℕ, ◌-◌, List, ◌++◌, length, map, slice_get, Option, Some, None, false}
use Rattle.std.specs.List.{AllByRecursion, AllZip}
use Rattle.kad_base.specs.declared.types.Event.{Event}
use Rattle.kad_base.specs.declared.types.Proof.{Proof}
use Rattle.kad_base.specs.Outside.{Grows}
use Rattle.kad_krpc.specs.declared.message.Ask.{Ask}
use Rattle.kad_krpc.specs.Form.{IsWritableAsk}
use Rattle.id_puzzles.specs.Drawn.{WordsState}
use Rattle.lookup_core.specs.Sealed.{Accepts}
use Rattle.node_serve.specs.declared.setting.ServeSetting.{ServeSetting}
use Rattle.node_serve.specs.Sealing.{Tags}
use Rattle.serve_crew.specs.Hands.{Hands, SameHands}
use Rattle.lookup_crowd.specs.declared.due.FollowUp.{FollowUp}
use Rattle.lookup_crowd.specs.declared.seeker.Progress.{Progress}
use Rattle.lookup_crowd.specs.declared.seeker.ManyFault.{ManyFault}
use Rattle.lookup_crowd.specs.Errands.{drawn_by}
use Rattle.lookup_crowd.specs.inner.Crowd.{whose, DrivenOn, IsLegal, Longer, SameSeat, Stand, ManyShow, Ran, IsFrame}
use Rattle.lookup_crowd.specs.inner.ManySteps.{Stops, RanOn}
use Rattle.lookup_crowd.specs.Many.{Frame, Reading, and_then}
use Rattle.look_many.specs.inner.Serving.{MayServe}

-- what is asked has a written form, whatever proof it brings
abbrev pub IsSayable : Ask → Type 0
IsSayable ask = (proof : Option Proof) → IsWritableAsk proof ask

abbrev pub CarriesOf : FollowUp → Type 0
CarriesOf follow = IsSayable follow.ask

-- it is the first of those that have still to go out
abbrev pub IsNext : List FollowUp → Progress → FollowUp → Type 0
IsNext follows progress follow = slice_get follows (length follows - progress.unsaid) ≡ Some follow

-- As `Advances`, where the lookups are over and these are the follow-ups: of those that were sent the last list has the owners.
pub record Follows (follows : List FollowUp) (made told : List ℕ) (accepts : Accepts) (tags : Tags) (server : ServeSetting) (old new : Stand) : Type 0 where
  pub more : Reading
  pub owners_are : more.owners ≡ made
  pub told_are : more.told ≡ told
  pub goes : (f : Frame) (count : ℕ) (read : Reading) (began : Option (List Event)) → IsFrame accepts tags server old.words.seed f → f.follows ≡ follows
      → Grows began old.told (λ events. ManyShow false f count old.seekers old.progress old.words.place None read events)
      → Grows began new.told (λ events. ManyShow false f count new.seekers new.progress new.words.place None (and_then read more) events)
  pub ran : Ran old.host new.host more.did more.lost
  pub seed : new.words.seed ≡ old.words.seed

-- follow-ups went out, their owners were written down, and those of the sent ones again
pub record Says (follows : List FollowUp) (accepts : Accepts) (tags : Tags) (server : ServeSetting) (old new : Stand) (owners owners' said said' : List ℕ) : Type 0 where
  pub made : List ℕ
  pub told : List ℕ
  pub advances : Follows follows made told accepts tags server old new
  pub owners_are : owners' ≡ owners ++ made
  pub said_are : said' ≡ said ++ told
  pub drawn : new.words ≡ drawn_by old.words made
  pub same : SameHands old.host new.host
  pub may : MayServe new.seekers new.progress
  pub journals : map whose new.seekers ≡ map whose old.seekers
  pub gathered : map (λ k. k.gathered) new.seekers ≡ map (λ k. k.gathered) old.seekers
  pub seats : AllZip SameSeat old.seekers new.seekers

-- they ended early: some went out, up to a last stand that the events show, and the node that serves perhaps went beyond it
pub record EndsSaying (fault : ManyFault) (follows : List FollowUp) (accepts : Accepts) (tags : Tags) (server : ServeSetting) (old : Stand) (words' : WordsState) (host' : Hands) (told' : Option (List Event)) : Type 0 where
  pub last : Stand
  pub made : List ℕ
  pub told : List ℕ
  pub advances : Follows follows made told accepts tags server old last
  pub drawn : words' ≡ drawn_by old.words made
  pub same : SameHands old.host last.host
  pub legal : AllByRecursion IsLegal last.seekers
  pub longer : AllZip Longer old.seekers last.seekers
  pub driven_on : AllZip DrivenOn old.seekers last.seekers
  pub seats : AllZip SameSeat old.seekers last.seekers
  pub journals : map whose last.seekers ≡ map whose old.seekers
  pub gathered : map (λ k. k.gathered) last.seekers ≡ map (λ k. k.gathered) old.seekers
  pub stops : Stops false fault accepts tags server last told'
  pub ran_on : RanOn last.host host'
