-- The lines of an input that names what is looked for: contact lines, and lines that name a job. The words are this project's own.
use Rattle.std.specs.Prelude.{◌≡◌, ℕ, ◌+◌, ◌<◌, ◌≤◌, List, [], ◌∷◌, ◌++◌, length, codes, flat_map}
use Rattle.std.specs.List.{AllZip}
use Rattle.std.specs.Str.Lines.{strip_carriage_return}
use Rattle.kad_base.specs.declared.types.Id.{Id}
use Rattle.kad_base.specs.declared.types.Report.{Report}
use Rattle.kad_text.specs.Text.{SpellsBytes, SpellsId, SpellsNumber}
use Rattle.kad_base.specs.Limits.{max_lookups}
use Rattle.item_store.specs.Items.{IsItem, key_of}
use Rattle.look_many.specs.declared.job.Job.{Job}
use Rattle.look_many.specs.declared.job.Job.TheVariants.{Announce, Find, Get, Peers, Put}
use Rattle.node_commands.specs.declared.jobs.InputLine.{InputLine}
use Rattle.node_commands.specs.declared.jobs.InputLine.TheVariants.{Nothing, Told, Wanted}
use Rattle.kad_text.specs.Lines.{lines, IsPassedOver, IsContactLine}

-- a word with its space, and an identifier
pub record NamesId (word line : List ℕ) (id : Id) : Type 0 where
  pub digits : List ℕ
  pub spelled : line ≡ word ++ digits
  pub spells_id : SpellsId digits id

-- the word, a space and the key, and a space and the port, as the option `--announce` has it
pub record IsAnnounceLine (line : List ℕ) (key : Id) (port : ℕ) : Type 0 where
  pub digits : List ℕ
  pub number : List ℕ
  pub spelled : line ≡ codes "announce " ++ (digits ++ (codes " " ++ number))
  pub spells_key : SpellsId digits key
  pub spells_port : SpellsNumber 0 65535 number port

-- the word, a space, and in hex, as the option `--value` has them, bytes that may be an item (BEP 44); the key is their SHA-1
pub record IsPutLine (line : List ℕ) (key : Id) (v : List ℕ) : Type 0 where
  pub digits : List ℕ
  pub spelled : line ≡ codes "put " ++ digits
  pub spells_value : SpellsBytes digits v
  pub is_item : IsItem v
  pub key_is : key ≡ key_of v

-- what a line that names a job spells: its word, and the parts of the job
abbrev pub IsJobLine : List ℕ → Job → Type 0
IsJobLine line (Find target) = NamesId (codes "find ") line target
IsJobLine line (Peers key) = NamesId (codes "peers ") line key
IsJobLine line (Announce key port) = IsAnnounceLine line key port
IsJobLine line (Get key) = NamesId (codes "get ") line key
IsJobLine line (Put key v) = IsPutLine line key v

-- what a good line says: nothing if it is skipped, the report of a contact line, or a job. A carriage return at its
-- end isn't looked at
abbrev pub Says : List ℕ → InputLine → Type 0
Says line Nothing = IsPassedOver (strip_carriage_return line)
Says line (Told report) = IsContactLine (strip_carriage_return line) report
Says line (Wanted job) = IsJobLine (strip_carriage_return line) job

abbrev pub report_in : InputLine → List Report
report_in (Told report) = report ∷ []
report_in other = []

abbrev pub job_in : InputLine → List Job
job_in (Wanted job) = job ∷ []
job_in other = []

-- each line is good, these are the reports of the contact lines and the jobs, each in order, and no more jobs are named than there
-- may be lookups at once
pub record Naming (input : List (List ℕ)) (reports : List Report) (jobs : List Job) : Type 0 where
  pub said : List InputLine
  pub each : AllZip Says input said
  pub reports_are : reports ≡ flat_map report_in said
  pub jobs_are : jobs ≡ flat_map job_in said
  pub few : length jobs ≤ max_lookups

-- after lines that said these reports and jobs one line more is good, and this is what all say
pub record SaysMore (line : List ℕ) (reports : List Report) (jobs : List Job) (reports' : List Report) (jobs' : List Job) : Type 0 where
  pub said : InputLine
  pub says : Says line said
  pub reports_are : reports' ≡ reports ++ report_in said
  pub jobs_are : jobs' ≡ jobs ++ job_in said
  pub few : length jobs' ≤ max_lookups

-- after lines that name these jobs the line says nothing, or it is one job too many
abbrev pub IsBadBehind : List Job → List ℕ → Type 0
IsBadBehind jobs line = (said : InputLine) → Says line said → max_lookups < length (jobs ++ job_in said)

-- the line of this number, counted from 1, is so, and each before it is good
pub record IsFirstBadBehind (input : List (List ℕ)) (number : ℕ) : Type 0 where
  pub before : List (List ℕ)
  pub line : List ℕ
  pub after : List (List ℕ)
  pub split : input ≡ before ++ line ∷ after
  pub place : number ≡ length before + 1
  pub reports : List Report
  pub jobs : List Job
  pub good : Naming before reports jobs
  pub bad : IsBadBehind jobs line

-- each line of an input is good
abbrev pub AreGoodJobs : List ℕ → Type 0
AreGoodJobs input = (reports : List Report) × (jobs : List Job) × Naming (lines input) reports jobs

-- the line of this number is the first of them that isn't
abbrev pub IsBadJob : List ℕ → ℕ → Type 0
IsBadJob input number = IsFirstBadBehind (lines input) number
