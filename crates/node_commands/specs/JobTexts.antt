-- What a node prints of each of its jobs: the job, and what the command of that name prints of such a lookup. The lines are this
-- project's own.
use Rattle.std.specs.Prelude.{◌≡◌, ℕ, List, [], ◌∷◌, ◌++◌, length, codes, decimal, Option}
use Rattle.hex.specs.Hex.{encode_lower}
use Rattle.kad_base.specs.declared.types.Contact.{Contact}
use Rattle.claim_book.specs.Journal.{asked, failed, turned}
use Rattle.claim_book.specs.Result.{result_of}
use Rattle.node_serve.specs.declared.setting.ServeSetting.{ServeSetting}
use Rattle.look_many.specs.ManyLooked.{setting_for}
use Rattle.look_many.specs.declared.found.ManySetting.{ManySetting}
use Rattle.look_many.specs.declared.found.One.{One}
use Rattle.look_many.specs.declared.job.Job.{Job}
use Rattle.look_many.specs.declared.job.Job.TheVariants.{Announce, Find, Get, Peers, Put}
use Rattle.command_base.specs.Printed.{line_of, printed}
use Rattle.lookup_commands.specs.Got.{IsGot}
use Rattle.lookup_commands.specs.Printed.{printed_item, printed_peers, printed_stored}

-- a job: its word, and what is looked up, in lower-case hex; of an announcement the port too, and of an item its key only
abbrev pub job_text : Job → List ℕ
job_text (Find target) = codes "find " ++ encode_lower target.0
job_text (Peers key) = codes "peers " ++ encode_lower key.0
job_text (Announce key port) = codes "announce " ++ encode_lower key.0 ++ codes " " ++ decimal port
job_text (Get key) = codes "get " ++ encode_lower key.0
job_text (Put key v) = codes "put " ++ encode_lower key.0

-- what was found for a job, as the command of that name prints it of a lookup that found these contacts and has these counts: the
-- contacts; the peers, and how many announcements were sent; the first item of the key, whose SHA-1 the key is; how many puts were
-- sent
abbrev pub IsFoundText : Job → One → List Contact → ℕ → ℕ → ℕ → List ℕ → Type 0
IsFoundText (Find target) one found asked failed turned text = text ≡ printed found asked failed turned
IsFoundText (Peers key) one found asked failed turned text = text ≡ printed_peers one.peers (length found) asked failed turned 0
IsFoundText (Announce key port) one found asked failed turned text = text ≡ printed_peers one.peers (length found) asked failed turned one.sent
IsFoundText (Get key) one found asked failed turned text = (item : Option (List ℕ)) × IsGot key one.items item × (text ≡ printed_item item (length found) asked failed turned)
IsFoundText (Put key v) one found asked failed turned text = text ≡ printed_stored key (length found) asked failed turned one.sent

-- the job, as a line, and that
abbrev pub IsTextBy : Job → One → List Contact → ℕ → ℕ → ℕ → List ℕ → Type 0
IsTextBy job one found asked failed turned text = (rest : List ℕ) × IsFoundText job one found asked failed turned rest × (text ≡ line_of (job_text job) ++ rest)

-- by what the code has of it
abbrev pub IsTextOf : Job → One → List ℕ → Type 0
IsTextOf job one text = IsTextBy job one one.found one.counts.asked one.counts.failed one.counts.turned text

-- and by its journal
abbrev pub IsJobText : ServeSetting → ManySetting → Job → One → List ℕ → Type 0
IsJobText server setting job one text = IsTextBy job one (result_of (setting_for server setting job) one.journal) (length (asked one.journal)) (length (failed one.journal)) (length (turned one.journal)) text

-- texts one after another, one for each job, in order
abbrev pub AreTexts : (Job → One → List ℕ → Type 0) → List Job → List One → List ℕ → Type 0
AreTexts IsOne [] ones text = text ≡ []
AreTexts IsOne (job ∷ jobs) [] text = text ≡ []
AreTexts IsOne (job ∷ jobs) (one ∷ ones) text = (first : List ℕ) × (rest : List ℕ) × IsOne job one first × AreTexts IsOne jobs ones rest × (text ≡ first ++ rest)

abbrev pub AreTextsOf : List Job → List One → List ℕ → Type 0
AreTextsOf jobs ones text = AreTexts IsTextOf jobs ones text

abbrev pub AreJobTexts : ServeSetting → ManySetting → List Job → List One → List ℕ → Type 0
AreJobTexts server setting jobs ones text = AreTexts (IsJobText server setting) jobs ones text
