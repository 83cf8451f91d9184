-- Which queries follow several lookups, by what the driver keeps of them.
use Rattle.std.specs.Prelude.{ℕ, suc, List, [], ◌∷◌, ◌++◌, map}
use Rattle.kad_base.specs.declared.types.Id.{Id}
use Rattle.claim_book.specs.Result.{result_of}
use Rattle.follow_ups.specs.declared.announce.Announcement.{Announcement}
use Rattle.lookup_crowd.specs.declared.due.FollowUp.{FollowUp}
use Rattle.lookup_crowd.specs.declared.seeker.Seeker.{Seeker}
use Rattle.look_many.specs.declared.job.Job.{Job}
use Rattle.look_many.specs.Job.{owed_for}
use Rattle.look_many.specs.Planned.{by}

-- what a lookup owes
abbrev pub owed_of : Id → Job → Seeker → List Announcement
owed_of own job k = owed_for own job (result_of k.lookup.book.setting k.lookup.book.journal) k.gathered.tokens

-- what all owe, the first of which has this number
abbrev pub follows_kept : Id → ℕ → List Job → List Seeker → List FollowUp
follows_kept own i [] ks = []
follows_kept own i (job ∷ jobs) [] = []
follows_kept own i (job ∷ jobs) (k ∷ ks) = map (by i) (owed_of own job k) ++ follows_kept own (suc i) jobs ks
