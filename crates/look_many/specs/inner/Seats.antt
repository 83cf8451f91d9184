-- Where several lookups begin.
use Rattle.std.specs.Prelude.{◌≡◌, ℕ, suc, ◌<◌, List, [], ◌∷◌, length, map, reverse}
use Rattle.claim_book.specs.Legal.{Legal, seeded}
use Rattle.claim_book.specs.Calls.{Counted}
use Rattle.claim_book.specs.Result.{result_of}
use Rattle.claim_book.specs.RunOut.{RunOut}
use Rattle.claim_book.specs.State.{BookState}
use Rattle.contact_table.specs.TableState.{TableState}
use Rattle.lookup_core.specs.declared.gather.Gathered.{Gathered}
use Rattle.lookup_core.specs.Gathered.{IsBare, IsEachOnce}
use Rattle.turn_book.specs.Turns.{fresh}
use Rattle.serve_crew.specs.Hands.{Hands, hands}
use Rattle.serve_crew.specs.declared.turns.Turns.{Turns}
use Rattle.serve_crew.specs.declared.turns.Rows.{Rows}
use Rattle.node_serve.specs.declared.setting.ServeSetting.{ServeSetting}
use Rattle.lookup_crowd.specs.declared.seeker.Seeker.{Seeker}
use Rattle.lookup_crowd.specs.Mine.{driven}
use Rattle.lookup_crowd.specs.inner.Crowd.{whose}
use Rattle.look_many.specs.declared.found.ManySetting.{ManySetting}
use Rattle.look_many.specs.declared.finish.Done.{Done}
use Rattle.look_many.specs.declared.found.One.{One}
use Rattle.look_many.specs.declared.job.Job.{Job}
use Rattle.look_many.specs.ManyLooked.{setting_for, quest_for, seeds_for}

-- a book that begins with the closest contacts of the table
pub record IsBookFor (server : ServeSetting) (setting : ManySetting) (table : TableState) (job : Job) (book : BookState) : Type 0 where
  pub setting_is : book.setting ≡ setting_for server setting job
  pub journal : book.journal ≡ seeded setting.per_address setting.paths (seeds_for server table job)
  pub legal : Legal book.setting book.journal

-- a lookup that has such a book, asked nobody and gathered nothing
pub record IsSeekerFor (server : ServeSetting) (setting : ManySetting) (table : TableState) (job : Job) (k : Seeker) : Type 0 where
  pub book : IsBookFor server setting table job k.lookup.book
  pub quest : k.quest ≡ quest_for server setting job
  pub none_open : k.lookup.queries ≡ []
  pub bare : IsBare k.gathered

-- a lookup of which no event told yet
pub record IsFresh (k : Seeker) : Type 0 where
  pub none_open : k.lookup.queries ≡ []
  pub none_driven : driven k.lookup.book.journal ≡ []
  pub bare : IsBare k.gathered

-- how many lookups there are
abbrev pub count_of : List Seeker → ℕ
count_of ks = length (map whose ks)

-- ---- where they end

-- every path has run out
abbrev pub IsOverBook : BookState → Type 0
IsOverBook book = (p : ℕ) → p < book.setting.paths → RunOut book.setting p book.journal

-- what the book of a lookup that is over found
pub record IsDone (book : BookState) (one : One) : Type 0 where
  pub journal : one.journal ≡ book.journal
  pub legal : Legal book.setting one.journal
  pub run_out : (p : ℕ) → p < book.setting.paths → RunOut book.setting p one.journal
  pub found : one.found ≡ result_of book.setting one.journal
  pub counted : Counted one.journal one.counts

-- what it gathered, handed out: the peers each once and in order
pub record IsHanded (gathered : Gathered) (one : One) : Type 0 where
  pub peers : IsEachOnce gathered.peers one.peers
  pub tokens : one.tokens ≡ gathered.tokens
  pub items : one.items ≡ gathered.items

-- what is left of a lookup
abbrev pub done_of : Seeker → Done
done_of k = record { book = k.lookup.book; gathered = k.gathered }

-- and what that found
pub record IsOutcome (done : Done) (one : One) : Type 0 where
  pub found : IsDone done.book one
  pub handed : IsHanded done.gathered one

-- lookups in a row, the first of which calls in this role
abbrev pub RolesFrom : ℕ → List Seeker → Type 0
RolesFrom r [] = Unit {0}
RolesFrom r (k ∷ ks) = (k.pass.role ≡ r) × RolesFrom (suc r) ks

-- the node that serves before its first call
abbrev pub new_host : Turns → Hands
new_host turns = hands (fresh turns.table.id 0) (fresh turns.peers.id 0) (fresh turns.items.id 0)

-- the passes are those of the node that serves and of all lookups
pub record AreBack (rows : Rows) (host : Hands) (seekers : List Seeker) : Type 0 where
  pub table : rows.table.passes ≡ host.table ∷ map (λ k. k.pass) (reverse seekers)
  pub peers : rows.peers.passes ≡ host.peers ∷ []
  pub items : rows.items.passes ≡ host.items ∷ []
  pub driver : host.table.role ≡ 0
  pub driver_peers : host.peers.role ≡ 0
  pub driver_items : host.items.role ≡ 0
  pub roles : RolesFrom 1 seekers

-- the roles of the node that serves at the turns over peers and items, which nobody else calls
pub record IsAlone (host : Hands) : Type 0 where
  pub peers : host.peers.role ≡ 0
  pub items : host.items.role ≡ 0
