-- What serving on owes, where all lookups are over.
use Rattle.std.specs.Prelude.{◌≡◌, ◌⊎◌, ◌+◌, ◌^◌, ◌<◌, List, [], true, false}
use Rattle.std.specs.List.{AllByRecursion}
use Rattle.node_serve.specs.Lasting.{is_over}
use Rattle.lookup_crowd.specs.declared.seeker.Seeker.{Seeker}
use Rattle.lookup_crowd.specs.declared.seeker.Progress.{Progress}
use Rattle.lookup_crowd.specs.inner.Crowd.{Holding, NoneAsks, queries_of}
use Rattle.lookup_crowd.specs.inner.ManySteps.{IsRunOut, max_all_asks, HasCounted}

-- the lookups are over: a follow-up may go out, and where none is left a receive may be made that waits for others
pub record MayServe (ks : List Seeker) (progress : Progress) : Type 0 where
  pub holds : AllByRecursion Holding ks
  pub none_open : queries_of ks ≡ []
  pub over : AllByRecursion IsRunOut ks
  pub none_asks : AllByRecursion NoneAsks ks
  pub round_over : progress.receives ≡ 0
  pub room : progress.foreign + progress.left + progress.unsaid + max_all_asks < 2 ^ 64
  pub counted : HasCounted ks progress

-- serving on is over: as many receives were made as are wanted, or the moment told last is at or past the end by time
abbrev pub HasEnough : Progress → Type 0
HasEnough progress = (progress.left ≡ 0) ⊎ (is_over progress.end progress.moment ≡ true)

-- or it isn't: one receive more may be made
pub record WantsMore (progress : Progress) : Type 0 where
  pub some_left : 0 < progress.left
  pub before_end : is_over progress.end progress.moment ≡ false
