-- What the command `node` promises: that its text is that of the journals of several lookups that have all run out, and of what
-- was gathered and sent for each, which the link's events tell together, while a node answered what was for none of them
-- (S/Kademlia, 2007, section 4.4, over Kademlia, 2002, section 2.3; BEP 5; BEP 44); and what they are if they ended early. The
-- lines that name jobs are this project's own.
use Rattle.std.specs.Prelude.{◌≡◌, ◌≢◌, ◌⊎◌, ◌<◌, ℕ, List, [], ◌∷◌, ◌++◌, Bool, true, map, Option}
use Rattle.std.specs.List.{AllZip, IsDistinct}
use Rattle.kad_base.specs.declared.types.Contact.{Contact}
use Rattle.kad_base.specs.declared.types.Event.{Event}
use Rattle.kad_base.specs.declared.types.Family.TheVariants.{Four}
use Rattle.kad_base.specs.declared.types.ClaimRule.TheVariants.{Named}
use Rattle.kad_base.specs.declared.types.Proof.{Proof}
use Rattle.kad_base.specs.declared.types.Report.{Report}
use Rattle.kad_base.specs.Contacts.{same, among}
use Rattle.kad_base.specs.Limits.{max_strays}
use Rattle.kad_base.specs.Outside.{Grows}
use Rattle.id_puzzles.specs.Drawn.{WordsState}
use Rattle.contact_table.specs.TableState.{TableState}
use Rattle.contact_table.specs.Told.{limited_table}
use Rattle.lookup_run.specs.Lookup.{TableTold}
use Rattle.claim_book.specs.declared.types.Entry.{Entry}
use Rattle.claim_book.specs.Crowded.{HasFewOfAHost}
use Rattle.claim_book.specs.Journal.{took, asked, answered}
use Rattle.claim_book.specs.Lineage.{GoesByOwnAnswers}
use Rattle.claim_book.specs.Result.{result_of}
use Rattle.claim_book.specs.RunOut.{RunOut}
use Rattle.node_serve.specs.declared.lasting.Lasting.{Lasting}
use Rattle.node_serve.specs.declared.setting.ServeSetting.{ServeSetting}
use Rattle.node_tokens.specs.Tokens.{tokens_by}
use Rattle.lookup_crowd.specs.Many.{Reading, ManyTellSoFar, EndsAtForeign, Shown as Seen}
use Rattle.lookup_crowd.specs.declared.due.FollowUp.{FollowUp}
use Rattle.lookup_crowd.specs.declared.seeker.ManyFault.{ManyFault}
use Rattle.lookup_crowd.specs.declared.seeker.ManyFault.TheVariants as fault
use Rattle.look_many.specs.ManyLooked.{setting_for, all_read, frame_for, journals_of, IsJournalFor, ManyLooked, ManyStopped, CountsUnsent}
use Rattle.look_many.specs.declared.found.Many.{Many}
use Rattle.look_many.specs.declared.found.ManySetting.{ManySetting}
use Rattle.look_many.specs.declared.job.Job.{Job}
use Rattle.kad_words.specs.declared.command.LookWords.{LookWords}
use Rattle.kad_words.specs.declared.command.NodeWords.{NodeWords}
use Rattle.command_base.specs.declared.status.Status.{Status}
use Rattle.command_base.specs.declared.status.Status.TheVariants.{LinkFault, Strays, NoSeeds}
use Rattle.command_base.specs.Called.{Called}
use Rattle.node_commands.specs.JobLines.{AreGoodJobs, IsBadJob, Naming}
use Rattle.command_base.specs.Input.{ReadsAll, Admits, Keeps}
use Rattle.kad_text.specs.Lines.{lines}
use Rattle.node_commands.specs.JobTexts.{AreJobTexts, AreTextsOf}
use Rattle.serve_commands.specs.Printed.{printed_served, WithTable}
use Rattle.command_base.specs.Promise.{Aim, Promise, ReadingCause, vouched}
use Rattle.command_base.specs.Shown.{Shown, IsTold, HasFailed}
use Rattle.command_base.specs.Started.{own_of, drawn_of, IsInRange, seen_call}
use Rattle.command_base.specs.Vouched.{Vouches}

-- ---- its setting

-- how long it serves
abbrev pub lasting_of : NodeWords → Lasting
lasting_of words = record { receives = words.receives; minutes = words.minutes }

-- what the node answers by: the epochs of its tokens count from the moment 0; and the proof that its queries bring
abbrev pub server_of : LookWords → Option Proof → List ℕ → List Report → ServeSetting
server_of look proof random proofs = record {
  own = own_of look.own random;
  k = look.k;
  policy = look.policy;
  proofs = proofs;
  tokens = tokens_by random 0 look.per_address;
  sealed = look.sealed;
  proof = proof;
}

-- how each lookup goes
abbrev pub each_of : LookWords → ManySetting
each_of look = record { paths = look.paths; alpha = look.alpha; timeout = look.timeout; per_address = look.per_address; claim = look.claim }

-- ---- the input

-- the input was read to its end, each of its lines is good, and this is what they say
pub record Names (source : Shown ℕ) (reports : List Report) (jobs : List Job) : Type 0 where
  pub input : List ℕ
  pub read : ReadsAll source.before source.after input
  pub good_lines : Naming (lines input) reports jobs

-- an input that a node goes on with: if it names a job, it gives some contact to begin with
pub record GivesStart (look : LookWords) (random : List ℕ) (source : Shown ℕ) : Type 0 where
  pub reports : List Report
  pub jobs : List Job
  pub names : Names source reports jobs
  pub contacts : List Contact
  pub admits : Admits (own_of look.own random) Four look.policy reports contacts
  pub some_one : jobs ≢ [] → contacts ≢ []

-- and one that it doesn't: it names a job, and gives none
pub record GivesNobody (look : LookWords) (random : List ℕ) (source : Shown ℕ) : Type 0 where
  pub reports : List Report
  pub jobs : List Job
  pub names : Names source reports jobs
  pub some_job : jobs ≢ []
  pub no_one : Admits (own_of look.own random) Four look.policy reports []

-- What a node begins with: the jobs of the input; the table, which takes no more contacts of one host than the words say, and
-- was told of the input's that are usable and pass, in order; and of these the reports that have a proof.
pub record Starts (look : LookWords) (random : List ℕ) (source : Shown ℕ) (jobs : List Job) (table : TableState) (proofs : List Report) : Type 0 where
  pub reports : List Report
  pub names : Names source reports jobs
  pub contacts : List Contact
  pub admits : Admits (own_of look.own random) Four look.policy reports contacts
  pub some_one : jobs ≢ [] → contacts ≢ []
  pub told : TableTold (map seen_call contacts) (limited_table (own_of look.own random) look.k look.bits look.per_address) table
  pub keeps : Keeps (own_of look.own random) Four look.policy reports proofs

-- why the lines of an input said nothing
abbrev pub NamesCause : Shown ℕ → Status → Type 0
NamesCause source status = ReadingCause IsBadJob (λ s. ⊥) source status

-- why an input gave no start
abbrev pub StartCause : LookWords → List ℕ → Shown ℕ → Status → Type 0
StartCause look random source NoSeeds = GivesNobody look random source
StartCause look random source other = ⊥

abbrev pub StartsCause : LookWords → List ℕ → Shown ℕ → Status → Type 0
StartsCause look random source status = ReadingCause IsBadJob (StartCause look random source) source status

-- ---- the text

-- the output of a node, by what the code has: what was found for each job, how many datagrams came and how many replies were sent,
-- and, where it is wanted, the saved text of the table
abbrev pub IsPrinted : Bool → TableState → List Job → Many → List ℕ → Type 0
IsPrinted with_table table jobs many text = (texts : List ℕ) × AreTextsOf jobs many.outcomes texts × WithTable with_table table (texts ++ printed_served many.received many.replied) text

-- ---- the lookups

-- The lookup of a job has run out: its journal is legal and begins with the k closest of the table, and every path has run
-- out in it. So no contact is asked twice, and none taken twice where a name is a claim; what a path asks comes from its own seeds and
-- answers, no path has or asks more contacts of one host than the words say, and each of the result has answered.
pub record HasRunOutFor (server : ServeSetting) (setting : ManySetting) (table : TableState) (job : Job) (journal : List Entry) : Type 0 where
  pub is_journal : IsJournalFor server setting table job journal
  pub run_out : (p : ℕ) → p < setting.paths → RunOut (setting_for server setting job) p journal
  pub taken_once : setting.claim ≡ Named → IsDistinct same (took journal)
  pub asked_once : IsDistinct same (asked journal)
  pub own_answers : GoesByOwnAnswers (setting_for server setting job) journal
  pub few_of_a_host : HasFewOfAHost (setting_for server setting job) journal
  pub have_answered : (c : Contact) → among (result_of (setting_for server setting job) journal) c ≡ true → among (answered journal) c ≡ true

-- what several lookups did, from this table on to that one, while the node answered
abbrev pub LooksFrom : LookWords → Lasting → Option Proof → Called → List Job → TableState → List Report → Shown Event → TableState → WordsState → Many → Type 0
LooksFrom look lasting proof called jobs table proofs link after left many =
    ManyLooked called.accepts called.tags (server_of look proof called.random proofs) (each_of look) jobs lasting table after (drawn_of called.random) left link.before link.after many

-- the same if they ended early
abbrev pub StopsFrom : LookWords → Lasting → Option Proof → Called → List Job → TableState → List Report → Shown Event → TableState → WordsState → ManyFault → Type 0
StopsFrom look lasting proof called jobs table proofs link after left by =
    ManyStopped called.accepts called.tags (server_of look proof called.random proofs) (each_of look) jobs lasting table after (drawn_of called.random) left link.before link.after by

abbrev pub HasLookedTo : TableState → LookWords → Lasting → Option Proof → Called → List Job → TableState → List Report → Shown Event → Many → Type 0
HasLookedTo after look lasting proof called jobs table proofs link many = (left : WordsState) × LooksFrom look lasting proof called jobs table proofs link after left many

abbrev pub HasLooked : LookWords → Lasting → Option Proof → Called → List Job → TableState → List Report → Shown Event → Many → Type 0
HasLooked look lasting proof called jobs table proofs link many = (after : TableState) × (left : WordsState) × LooksFrom look lasting proof called jobs table proofs link after left many

abbrev pub HasStopped : LookWords → Lasting → Option Proof → Called → List Job → TableState → List Report → Shown Event → ManyFault → Type 0
HasStopped look lasting proof called jobs table proofs link by = (after : TableState) × (left : WordsState) × StopsFrom look lasting proof called jobs table proofs link after left by

-- all lookups have run out, and the node has made as many receives as are wanted, or its end by time has come; over every link,
-- who was lost because it would not send, it counted
pub record NodeRan (look : LookWords) (lasting : Lasting) (proof : Option Proof) (called : Called) (source : Shown ℕ) (link : Shown Event) : Type 0 where
  pub jobs : List Job
  pub table : TableState
  pub proofs : List Report
  pub starts : Starts look called.random source jobs table proofs
  pub many : Many
  pub looked : HasLooked look lasting proof called jobs table proofs link many
  pub refused : CountsUnsent (journals_of many.outcomes) link.sends link.sends'

-- it ended early by a fault
pub record NodeEnds (look : LookWords) (lasting : Lasting) (proof : Option Proof) (called : Called) (source : Shown ℕ) (link : Shown Event) (by : ManyFault) : Type 0 where
  pub jobs : List Job
  pub table : TableState
  pub proofs : List Report
  pub starts : Starts look called.random source jobs table proofs
  pub stopped : HasStopped look lasting proof called jobs table proofs link by

-- ---- what it promises

-- A whole node. The text has for each job, in order, the job and what the command of that name prints of such a lookup, by a journal
-- which has run out, and by what its answers gave and the queries that were sent behind it (both as the events tell, if they tell
-- all); the item of a `get` has the key for its SHA-1 over a link that tells nothing too. Behind them it has how many datagrams came,
-- and how many replies were sent; and, where it is wanted, the saved text of the table that the lookups and the queries left.
pub record NodeText (look : LookWords) (lasting : Lasting) (proof : Option Proof) (with_table : Bool) (called : Called) (source : Shown ℕ) (link : Shown Event) (text : List ℕ) : Type 0 where
  pub ran : NodeRan look lasting proof called source link
  pub journals : List (List Entry)
  pub journals_are : journals ≡ journals_of ran.many.outcomes
  pub each : AllZip (HasRunOutFor (server_of look proof called.random ran.proofs) (each_of look) ran.table) ran.jobs journals
  pub texts : List ℕ
  pub texts_are : AreJobTexts (server_of look proof called.random ran.proofs) (each_of look) ran.jobs ran.many.outcomes texts
  pub text_is : WithTable with_table ran.looked.0 (texts ++ printed_served ran.many.received ran.many.replied) text

-- one that gave no text: it ended early, or it was whole
abbrev pub NodeBegun : LookWords → Lasting → Option Proof → Called → Shown ℕ → Shown Event → Type 0
NodeBegun look lasting proof called source link = ((by : ManyFault) × NodeEnds look lasting proof called source link by) ⊎ NodeRan look lasting proof called source link

-- the events tell journals of these jobs so far, and these queries behind their lookups, by which the node has these proofs
pub record TellsJobs (look : LookWords) (lasting : Lasting) (proof : Option Proof) (called : Called) (events : List Event) : Type 0 where
  pub jobs : List Job
  pub proofs : List Report
  pub journals : List (List Entry)
  pub follows : List FollowUp
  pub read : Reading
  pub end : Seen
  pub so_far : ManyTellSoFar (frame_for called.accepts called.tags (server_of look proof called.random proofs) (drawn_of called.random) lasting follows) (all_read (server_of look proof called.random proofs) (each_of look) jobs journals) events read end

-- or they end with the last datagram for no lookup that is taken while a query is open
pub record EndsJobs (look : LookWords) (lasting : Lasting) (proof : Option Proof) (called : Called) (events : List Event) : Type 0 where
  pub jobs : List Job
  pub proofs : List Report
  pub journals : List (List Entry)
  pub follows : List FollowUp
  pub read : Reading
  pub ends : EndsAtForeign (frame_for called.accepts called.tags (server_of look proof called.random proofs) (drawn_of called.random) lasting follows) (all_read (server_of look proof called.random proofs) (each_of look) jobs journals) events read max_strays

-- by some jobs, proofs, journals and follow-ups they end so, and by none they tell on
abbrev pub ShowsLastForeign : LookWords → Lasting → Option Proof → Called → Shown Event → Type 0
ShowsLastForeign look lasting proof called link = Grows link.before link.after (λ events. EndsJobs look lasting proof called events × (¬ TellsJobs look lasting proof called events))

-- why it ended after its input
abbrev pub NodeCause : LookWords → Lasting → Option Proof → Called → Shown ℕ → Shown Event → Status → Type 0
NodeCause look lasting proof called source link LinkFault = HasFailed link × NodeEnds look lasting proof called source link fault.LinkFault
NodeCause look lasting proof called source link Strays = NodeEnds look lasting proof called source link fault.Strays
NodeCause look lasting proof called source link NoSeeds = GivesNobody look called.random source
NodeCause look lasting proof called source link other = ⊥

-- what it needs: a good input, with a node to begin with if it names a job, no failure and few strays
pub record NodeGoesWell (look : LookWords) (lasting : Lasting) (proof : Option Proof) (called : Called) (source : Shown ℕ) (link : Shown Event) : Type 0 where
  pub told : IsTold source
  pub reads : ¬ HasFailed source
  pub hears : ¬ HasFailed link
  pub few_strays : ¬ NodeEnds look lasting proof called source link fault.Strays
  pub start : GivesStart look called.random source

abbrev pub node_aim : LookWords → Lasting → Option Proof → Bool → Aim
node_aim look lasting proof with_table = record {
  links = true;
  good = AreGoodJobs;
  bad = IsBadJob;
  unsound = λ source. ⊥;
  no_seeds = λ called source. GivesNobody look called.random source;
  last_stray = λ called link. ShowsLastForeign look lasting proof called link;
  strays = λ called source link. NodeEnds look lasting proof called source link fault.Strays;
  few = λ called source link. NodeEnds look lasting proof called source link fault.LinkFault;
  ends = 4 ∷ 7 ∷ 8 ∷ [];
  ranges = IsInRange look;
  text = λ called source link written. NodeText look lasting proof with_table called source link written;
  started = λ called source. GivesStart look called.random source;
  begun = λ called source link. NodeBegun look lasting proof called source link;
  cause = λ called source link status. NodeCause look lasting proof called source link status;
  needs = λ called source link. NodeGoesWell look lasting proof called source link;
}

-- why a node ended whose proof is good
abbrev pub Begun : NodeWords → Called → Shown ℕ → Shown Event → Status → Type 0
Begun words called source link status = ReadingCause IsBadJob (NodeCause words.look (lasting_of words) words.proof called source link) source status

-- what it does first of all is to look whether the proof that it was given, if any, is one of its own identifier
abbrev pub node_promise : NodeWords → Promise
node_promise words = vouched (λ random. Vouches words.look words.proof random) (node_aim words.look (lasting_of words) words.proof words.table)
