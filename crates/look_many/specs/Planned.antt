-- Which queries follow several lookups: those of each job in order, one for each contact that its lookup found and that gave it a
-- token, with that token (BEP 5, BEP 44).
use Rattle.std.specs.Prelude.{ℕ, suc, List, [], ◌∷◌, ◌++◌, map}
use Rattle.std.specs.List.{flat_map}
use Rattle.kad_base.specs.declared.types.Id.{Id}
use Rattle.claim_book.specs.Result.{result_of}
use Rattle.lookup_core.specs.Gathered.{token_of}
use Rattle.follow_ups.specs.declared.announce.Announcement.{Announcement}
use Rattle.lookup_crowd.specs.declared.due.FollowUp.{FollowUp}
use Rattle.lookup_crowd.specs.Mine.{Mine, Whose}
use Rattle.look_many.specs.declared.found.One.{One}
use Rattle.look_many.specs.declared.job.Job.{Job}
use Rattle.look_many.specs.Job.{owed_for}

-- what follows the lookup of that number
abbrev pub by : ℕ → Announcement → FollowUp
by owner a = record { owner = owner; to = a.to; ask = a.ask }

-- by what each found, the first of which has this number
abbrev pub follow_ups : Id → ℕ → List Job → List One → List FollowUp
follow_ups own i [] ones = []
follow_ups own i (job ∷ jobs) [] = []
follow_ups own i (job ∷ jobs) (one ∷ ones) = map (by i) (owed_for own job one.found one.tokens) ++ follow_ups own (suc i) jobs ones

-- by the journals, and what each heard
abbrev pub follows_read : Id → ℕ → List Job → List Whose → List Mine → List FollowUp
follows_read own i [] ws ms = []
follows_read own i (job ∷ jobs) [] ms = []
follows_read own i (job ∷ jobs) (w ∷ ws) [] = []
follows_read own i (job ∷ jobs) (w ∷ ws) (m ∷ ms) = map (by i) (owed_for own job (result_of w.setting w.journal) (flat_map token_of m.heard)) ++ follows_read own (suc i) jobs ws ms
