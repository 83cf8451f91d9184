-- The command `node`, from its input to its end.
use Rattle.std.proofs.Common.{◌≡◌, ◌≢◌, ℕ, ◌≤◌, List, [], ◌∷◌, ◌++◌, length, map, Bool, Option, None, inl, inr, refl, sym, ap, subst, ◌∙◌, arith, Result, Ok, Err, IfOk}
use Rattle.std.specs.Prelude.{IfErr}
use Rattle.std.specs.List.{All, AllByRecursion, AllZip}
use Rattle.kad_base.specs.declared.types.Contact.{Contact}
use Rattle.kad_base.specs.declared.types.Event.{Event}
use Rattle.kad_base.specs.declared.types.Event.TheVariants.{Got}
use Rattle.kad_base.specs.declared.types.Family.TheVariants.{Four}
use Rattle.kad_base.specs.declared.types.Id.{Id}
use Rattle.kad_base.specs.declared.types.Proof.{Proof}
use Rattle.kad_base.specs.declared.types.Report.{Report}
use Rattle.kad_base.specs.Contacts.{IsUsable}
use Rattle.kad_base.specs.Limits.{max_lookups}
use Rattle.kad_base.specs.Outside.{Grows}
use Rattle.kad_base.specs.Puzzles.{Passes}
use Rattle.kad_base.proofs.Grown.{grows_none, grows_weaker}
use Rattle.id_puzzles.specs.Drawn.{WordsState}
use Rattle.contact_table.specs.TableState.{TableState}
use Rattle.contact_table.specs.TableStep.{contacts_of}
use Rattle.contact_table.specs.Told.{limited_table}
use Rattle.claim_book.proofs.Claims.{took_distinct, asked_distinct}
use Rattle.claim_book.proofs.Ends.{found_answered}
use Rattle.claim_book.proofs.Hosted.{has_few}
use Rattle.lookup_run.specs.Lookup.{TableTold}
use Rattle.node_serve.specs.declared.lasting.Lasting.{Lasting}
use Rattle.node_serve.specs.declared.setting.ServeSetting.{ServeSetting}
use Rattle.node_tokens.specs.Tokens.{TokensState, tokens_by}
use Rattle.lookup_crowd.specs.declared.seeker.ManyFault.{ManyFault}
use Rattle.lookup_crowd.specs.declared.seeker.ManyFault.TheVariants as fault
use Rattle.look_many.specs.Job.{MaySayOf}
use Rattle.look_many.specs.ManyLooked.{CountsUnsent, IsFound, ManyLooked, ManyStopped, journals_of, setting_for}
use Rattle.look_many.specs.declared.found.Many.{Many}
use Rattle.look_many.specs.declared.found.ManySetting.{ManySetting}
use Rattle.look_many.specs.declared.found.One.{One}
use Rattle.look_many.specs.declared.job.Job.{Job}
use Rattle.kad_words.specs.declared.command.LookWords.{LookWords}
use Rattle.kad_words.specs.declared.command.NodeWords.{NodeWords}
use Rattle.command_base.specs.declared.status.Status.{Status}
use Rattle.command_base.specs.declared.status.Status.TheVariants.{LinkFault, Strays, NoSeeds, NoMemory, BadProof}
use Rattle.command_base.specs.Called.{Called}
use Rattle.node_commands.specs.Several.{Begun, EndsJobs, StartsCause, GivesNobody, GivesStart, HasLookedTo, HasRunOutFor, HasStopped, IsPrinted, LooksFrom, Names, NodeCause, NodeEnds, NodeGoesWell, NodeRan, NodeText, ShowsLastForeign, Starts, TellsJobs, each_of, lasting_of, node_aim, node_promise, server_of}
use Rattle.command_base.specs.Endings.{number_of}
use Rattle.node_commands.specs.declared.jobs.InputLine.TheVariants.{Nothing}
use Rattle.node_commands.specs.JobLines.{AreGoodJobs, IsBadJob, Naming}
use Rattle.command_base.specs.Input.{Admits, Keeps, ReadsAs}
use Rattle.kad_text.specs.Lines.{lines}
use Rattle.node_commands.specs.JobTexts.{AreTextsOf}
use Rattle.node_commands.proofs.JobTexting.{all_by_journal}
use Rattle.command_base.specs.Promise.{IsOneOf, reading}
use Rattle.command_base.specs.Shown.{Shown}
use Rattle.command_base.specs.Started.{drawn_of, own_of, seen_call, IsInRange}
use Rattle.command_base.proofs.Starting.{admits_usable, usable_told}
use Rattle.command_base.proofs.Exactly.{added_once, admits_once, input_once, unread_not_bad_of}
use Rattle.node_commands.proofs.JobLaws.{jobs_carried, jobs_once, named_or_bad, reports_once}
use Rattle.command_base.proofs.Lawful.{Lawful}
use Rattle.serve_commands.proofs.Serving.{kept_pass}
use Rattle.command_base.proofs.Staged.{Behind, reading_lawful}
use Rattle.command_base.proofs.Vouched.{vouched_lawful}
use Rattle.command_base.specs.Vouched.{Vouches}

-- ---- its input

jobs_apart : (input : List ℕ) (number : ℕ) → AreGoodJobs input → IsBadJob input number → ⊥
jobs_apart input number good bad = named_or_bad (lines input) good.0 good.1 number good.2 bad

names_good : (source : Shown ℕ) (reports : List Report) (jobs : List Job) → Names source reports jobs → ReadsAs AreGoodJobs source
names_good source reports jobs n = record { input = n.input; read = n.read; is_good = (reports, jobs, n.good_lines) }

-- an input gives a start or nobody
start_or_nobody : (look : LookWords) (random : List ℕ) (source : Shown ℕ) → source.after ≢ None → GivesStart look random source → GivesNobody look random source → ⊥
start_or_nobody look random source told s n =
    let same = input_once source.before source.after s.names.input n.names.input told s.names.read n.names.read in
    let good = subst (λ (l : List ℕ). Naming (lines l) s.reports s.jobs) same s.names.good_lines in
    let reports = reports_once (lines n.names.input) s.reports n.reports s.jobs n.jobs good n.names.good_lines in
    let jobs = jobs_once (lines n.names.input) s.reports n.reports s.jobs n.jobs good n.names.good_lines in
    let some_job : s.jobs ≢ [] = (λ e. n.some_job (sym jobs ∙ e)) in
    let admits = subst (λ (r : List Report). Admits (own_of look.own random) Four look.policy r s.contacts) reports s.admits in
    s.some_one some_job (admits_once (own_of look.own random) Four look.policy n.reports s.contacts [] admits n.no_one)

starts_given : (look : LookWords) (random : List ℕ) (source : Shown ℕ) (jobs : List Job) (table : TableState) (proofs : List Report) → Starts look random source jobs table proofs → GivesStart look random source
starts_given look random source jobs table proofs s = record { reports = s.reports; jobs = jobs; names = s.names; contacts = s.contacts; admits = s.admits; some_one = s.some_one }

-- ---- what the link's events tell

module _ (look : LookWords) (lasting : Lasting) (proof : Option Proof) (called : Called) (source : Shown ℕ) (link : Shown Event) where
  ran_tells : NodeRan look lasting proof called source link → Grows link.before link.after (TellsJobs look lasting proof called)
  ran_tells r = grows_weaker link.before link.after _ _ r.looked.2.tells (λ events t. record {
    jobs = r.jobs;
    proofs = r.proofs;
    journals = journals_of r.many.outcomes;
    follows = r.looked.2.follows;
    read = r.looked.2.read;
    end = t.tell.end;
    so_far = t.tell.so_far;
  })

  -- where a receive failed no datagram came that isn't told
  fault_tells : NodeEnds look lasting proof called source link fault.LinkFault → Grows link.before link.after (TellsJobs look lasting proof called)
  fault_tells e =
      elim e.stopped.2 [
        | inl b ↦ grows_weaker link.before link.after _ _ b.tells (λ events t. record {
          jobs = e.jobs;
          proofs = e.proofs;
          journals = b.journals;
          follows = b.follows;
          read = b.read;
          end = t.end;
          so_far = elim t.whole [ inl is ↦ rw is t.so_far | inr other ↦ absurd (other.0 refl) ];
        })
        | inr n ↦ absurd (cc n.fault_is)
      ]

  not_foreign : link.after ≢ None → Grows link.before link.after (TellsJobs look lasting proof called) → ShowsLastForeign look lasting proof called link → ⊥
  not_foreign told g h =
      added_once link.before link.after (TellsJobs look lasting proof called) told g (grows_weaker link.before link.after _ _ h (λ events p tells. p.1 tells))

nothing_more : (es : List Event) (x : Event) → [] ≡ es ++ x ∷ [] → ⊥
nothing_more [] x e = cc
nothing_more (y ∷ es) x e = cc

none_ends : (look : LookWords) (lasting : Lasting) (proof : Option Proof) (called : Called) → EndsJobs look lasting proof called [] → ⊥
none_ends look lasting proof called e = nothing_more e.ends.before (Got e.ends.from e.ends.bytes e.ends.until e.ends.at) e.ends.last

uncalled_not_foreign : (look : LookWords) (lasting : Lasting) (proof : Option Proof) (called : Called) (link : Shown Event) → link.after ≢ None → link.after ≡ link.before → ShowsLastForeign look lasting proof called link → ⊥
uncalled_not_foreign look lasting proof called link told same h =
    let Last : List Event → Type 0 = (λ events. EndsJobs look lasting proof called events) in
    let none_ : Grows link.before link.after (λ events. Last events → ⊥) =
    subst (λ (o : Option (List Event)). Grows link.before o (λ events. Last events → ⊥)) (sym same) (grows_none link.before (λ events. Last events → ⊥) (none_ends look lasting proof called)) in
    added_once link.before link.after Last told (grows_weaker link.before link.after _ _ h (λ events p. p.0)) none_

-- ---- the laws of its promise

module _ (look : LookWords) (lasting : Lasting) (proof : Option Proof) (called : Called) (source : Shown ℕ) (link : Shown Event) where
  behind : (with_table : Bool) (s : Status) → NodeCause look lasting proof called source link s → Behind (node_aim look lasting proof with_table) called source link s
  behind with_table LinkFault c =
      let e = c.1 in
      let start = starts_given look called.random source e.jobs e.table e.proofs e.starts in (
        names_good source e.starts.reports e.jobs e.starts.names,
        (c.0, start, inl (fault.LinkFault, e), e),
        λ told none_. absurd (start_or_nobody look called.random source told start none_),
        λ told early last. absurd (not_foreign look lasting proof called source link told (fault_tells look lasting proof called source link e) last),
        λ told unsound. absurd unsound,
      )
  behind with_table Strays c =
      let start = starts_given look called.random source c.jobs c.table c.proofs c.starts in (
        names_good source c.starts.reports c.jobs c.starts.names,
        (c, start, inl (fault.Strays, c)),
        λ told none_. absurd (start_or_nobody look called.random source told start none_),
        λ told early last. inl refl,
        λ told unsound. absurd unsound,
      )
  behind with_table NoSeeds c = (
    names_good source c.reports c.jobs c.names,
    ((λ refused. refused), c),
    λ told none_. inl refl,
    λ told early last. absurd (uncalled_not_foreign look lasting proof called link told (early (inr (inr (inr (inl refl))))) last),
    λ told unsound. absurd unsound,
  )
  behind with_table other c = absurd c

  needed : (s : Status) → NodeGoesWell look lasting proof called source link → ¬ NodeCause look lasting proof called source link s
  needed LinkFault n c = n.hears c.0
  needed Strays n c = n.few_strays c
  needed NoSeeds n c = start_or_nobody look called.random source n.told n.start c
  needed other n c = c

  in_ends : (s : Status) → NodeCause look lasting proof called source link s → IsOneOf (4 ∷ 7 ∷ 8 ∷ []) (number_of s)
  in_ends LinkFault c = inl refl
  in_ends Strays c = inr (inl refl)
  in_ends NoSeeds c = inr (inr (inl refl))
  in_ends other c = absurd c

  -- an input that gave no start
  pub no_start : (with_table : Bool) (s : Status) → StartsCause look called.random source s → (reading (node_aim look lasting proof with_table)).cause called source link s
  no_start with_table LinkFault h = absurd h
  no_start with_table Strays h = absurd h
  no_start with_table other h = h

begun_lawful : (words : NodeWords) → Lawful (reading (node_aim words.look (lasting_of words) words.proof words.table))
begun_lawful words = reading_lawful (node_aim words.look (lasting_of words) words.proof words.table) (record {
  good = λ called source link written t. names_good source t.ran.starts.reports t.ran.jobs t.ran.starts.names;
  apart = jobs_apart;
  seedless = λ called source n. names_good source n.reports n.jobs n.names;
  unrestored = λ source unsound. absurd unsound;
  sound = λ called source link written told t unsound. unsound;
  seeded = λ called source link written told t n. start_or_nobody words.look called.random source told (starts_given words.look called.random source t.ran.jobs t.ran.table t.ran.proofs t.ran.starts) n;
  few = λ called source link written told t last. not_foreign words.look (lasting_of words) words.proof called source link told (ran_tells words.look (lasting_of words) words.proof called source link t.ran) last;
  uncalled = λ called link told same last. uncalled_not_foreign words.look (lasting_of words) words.proof called link told same last;
  behind = λ called source link s c. behind words.look (lasting_of words) words.proof called source link words.table s c;
  well = λ called source link n. (n.told, n.reads, names_good source n.start.reports n.start.jobs n.start.names);
  needed = λ called source link s n c. needed words.look (lasting_of words) words.proof called source link s n c;
  in_ends = λ called source link s c. in_ends words.look (lasting_of words) words.proof called source link s c;
  seeks = λ none_ called source n. none_ refl;
  counts = λ none_ called source link last. none_ refl;
  restores = λ none_ source unsound. unsound;
})

-- no line of an input of no bytes is bad
no_line_bad : AreGoodJobs []
no_line_bad = ([], [], record { said = Nothing ∷ []; each = (tt, tt); reports_are = refl; jobs_are = refl; few = omega arith })

pub node_lawful : (words : NodeWords) → Lawful (node_promise words)
node_lawful words =
    vouched_lawful (λ random. Vouches words.look words.proof random) (node_aim words.look (lasting_of words) words.proof words.table) (begun_lawful words) refl
    (λ source number told same. unread_not_bad_of AreGoodJobs IsBadJob jobs_apart no_line_bad source number told same)
    (λ called link told same last. uncalled_not_foreign words.look (lasting_of words) words.proof called link told same last) (λ source unsound. unsound)

-- ---- behind the proof

module _ (words : NodeWords) (called : Called) (source : Shown ℕ) (link : Shown Event) where
  -- a cause behind it is no bad proof
  not_proof : (s : Status) → Begun words called source link s → number_of s ≡ 15 → ⊥
  not_proof BadProof c e = c
  not_proof other c e = absurd cc

  behind_proof : Vouches words.look words.proof called.random → (s : Status) → Begun words called source link s → (node_promise words).cause called source link s
  behind_proof is BadProof c = absurd c
  behind_proof is NoMemory c = tt
  behind_proof is s c = (is, c)

  pub never_unread : {T : Type 0} (r : Result T Status) (X : Type 0) → IfErr r (Begun words called source link) → IfErr r (λ s. number_of s ≡ 15 → X)
  never_unread (Ok x) X h = tt
  never_unread (Err s) X h = λ e. absurd (not_proof s h e)

  pub cause_behind : {T : Type 0} (r : Result T Status) → Vouches words.look words.proof called.random → IfErr r (Begun words called source link) → IfErr r ((node_promise words).cause called source link)
  cause_behind (Ok x) is h = tt
  cause_behind (Err s) is h = behind_proof is s h

  pub text_behind : {F : Type 0} (r : Result (List ℕ) F) → Vouches words.look words.proof called.random → IfOk r (NodeText words.look (lasting_of words) words.proof words.table called source link) → IfOk r ((node_promise words).text called source link)
  text_behind (Ok x) is h = (is, h)
  text_behind (Err s) is h = tt

-- ---- the same over the values that the code has

-- what the node answers by
abbrev server_by : LookWords → Option Proof → List Report → Id → TokensState → ServeSetting
server_by look proof proofs own tokens = record { own = own; k = look.k; policy = look.policy; proofs = proofs; tokens = tokens; sealed = look.sealed; proof = proof }

pub server_is : (look : LookWords) (proof : Option Proof) (random : List ℕ) (proofs : List Report) (own : Id) (tokens : TokensState) → own ≡ own_of look.own random → tokens ≡ tokens_by random 0 look.per_address
    → record { own = own; k = look.k; policy = look.policy; proofs = proofs; tokens = tokens; sealed = look.sealed; proof = proof } ≡ server_of look proof random proofs
server_is look proof random proofs own tokens mine drawn =
    ap (λ (id : Id). server_by look proof proofs id tokens) mine ∙ ap (λ (t : TokensState). server_by look proof proofs (own_of look.own random) t) drawn

module _ (look : LookWords) (lasting : Lasting) (proof : Option Proof) (called : Called) (jobs : List Job) (table : TableState) (proofs : List Report) (link : Shown Event) (server : ServeSetting) (words : WordsState)
    (server_are : server ≡ server_of look proof called.random proofs) (words_are : words ≡ drawn_of called.random) (after : TableState) (left : WordsState) where
  pub has_looked : (many : Many) → ManyLooked called.accepts called.tags server (each_of look) jobs lasting table after words left link.before link.after many → HasLookedTo after look lasting proof called jobs table proofs link many
  has_looked many h = (
    left,
    subst (λ (w : WordsState). ManyLooked called.accepts called.tags (server_of look proof called.random proofs) (each_of look) jobs lasting table after w left link.before link.after many) words_are
        (subst (λ (s : ServeSetting). ManyLooked called.accepts called.tags s (each_of look) jobs lasting table after words left link.before link.after many) server_are h),
  )

  pub has_stopped : (by : ManyFault) → ManyStopped called.accepts called.tags server (each_of look) jobs lasting table after words left link.before link.after by → HasStopped look lasting proof called jobs table proofs link by
  has_stopped by h = (
    after,
    left,
    subst (λ (w : WordsState). ManyStopped called.accepts called.tags (server_of look proof called.random proofs) (each_of look) jobs lasting table after w left link.before link.after by) words_are
        (subst (λ (s : ServeSetting). ManyStopped called.accepts called.tags s (each_of look) jobs lasting table after words left link.before link.after by) server_are h),
  )

-- what it begins with, as the code has it
pub starts_with : (look : LookWords) (random : List ℕ) (source : Shown ℕ) (own : Id) (reports read : List Report) (jobs : List Job) (contacts cs ds : List Contact) (proofs : List Report) (table : TableState) → own ≡ own_of look.own random → Names source reports jobs → read ≡ reports
    → Admits own Four look.policy read contacts → Keeps own Four look.policy read proofs → cs ≡ contacts → ds ≡ contacts → TableTold (map seen_call cs) (limited_table own look.k look.bits look.per_address) table → (jobs ≢ [] → ds ≢ []) → Starts look random source jobs table proofs
starts_with look random source own reports read jobs contacts cs ds proofs table mine names is admits keeps same too told some_ = record {
  reports = reports;
  names = names;
  contacts = contacts;
  admits = subst (λ (id : Id). Admits id Four look.policy reports contacts) mine (subst (λ (l : List Report). Admits own Four look.policy l contacts) is admits);
  some_one = λ job none_. some_ job (too ∙ none_);
  told = subst (λ (id : Id). TableTold (map seen_call contacts) (limited_table id look.k look.bits look.per_address) table) mine (subst (λ (l : List Contact). TableTold (map seen_call l) (limited_table own look.k look.bits look.per_address) table) same told);
  keeps = subst (λ (id : Id). Keeps id Four look.policy reports proofs) mine (subst (λ (l : List Report). Keeps own Four look.policy l proofs) is keeps);
}

module _ (look : LookWords) (random : List ℕ) (source : Shown ℕ) (jobs : List Job) (table : TableState) (proofs : List Report) (s : Starts look random source jobs table proofs) where
  pub starts_usable : (own : Id) → own ≡ own_of look.own random → All (IsUsable own) (contacts_of table)
  starts_usable own mine =
      subst (λ (id : Id). All (IsUsable id) (contacts_of table)) (sym mine)
      (usable_told (own_of look.own random) look.k look.bits look.per_address s.contacts table (admits_usable (own_of look.own random) Four look.policy s.reports s.contacts s.admits) s.told)

  pub starts_pass : All (Passes look.policy) proofs
  starts_pass = kept_pass (own_of look.own random) Four look.policy s.reports proofs s.keeps

  pub starts_few : (js : List Job) → js ≡ jobs → length js ≤ max_lookups
  starts_few js same = subst (λ (l : List Job). length l ≤ max_lookups) (sym same) s.names.good_lines.few

  pub starts_carried : (js : List Job) → js ≡ jobs → AllByRecursion MaySayOf js
  starts_carried js same = subst (AllByRecursion MaySayOf) (sym same) (jobs_carried (lines s.names.input) s.reports jobs s.names.good_lines)

-- ---- its text

zip_long : {A B : Type 0} (R : A → B → Type 0) (xs : List A) (ys : List B) → AllZip R xs ys → length xs ≡ length ys
zip_long R [] [] h = refl
zip_long R [] (y ∷ ys) h = absurd h
zip_long R (x ∷ xs) [] h = absurd h
zip_long {A} {B} R (x ∷ xs) (y ∷ ys) h = let rest = zip_long R xs ys h.1 in omega (arith, rest)

module _ (server : ServeSetting) (setting : ManySetting) (table : TableState) where
  all_run_out : 1 ≤ setting.paths → (jobs : List Job) (ones : List One) → AllZip (IsFound server setting table) jobs ones → AllZip (HasRunOutFor server setting table) jobs (journals_of ones)
  all_run_out some_path [] [] h = tt
  all_run_out some_path [] (o ∷ os) h = absurd h
  all_run_out some_path (j ∷ js) [] h = absurd h
  all_run_out some_path (j ∷ js) (o ∷ os) h =
      let set = setting_for server setting j in
      let f = h.0 in (
        record {
          is_journal = f.journal;
          run_out = f.run_out;
          taken_once = λ named. took_distinct set o.journal named f.journal.legal;
          asked_once = asked_distinct set o.journal f.journal.legal;
          own_answers = f.own_answers;
          few_of_a_host = has_few set o.journal f.journal.legal;
          have_answered = λ c has. found_answered set o.journal c some_path f.journal.legal f.run_out has;
        },
        all_run_out some_path js os h.1,
      )

abbrev pub ran_of : (look : LookWords) (lasting : Lasting) (proof : Option Proof) (called : Called) (source : Shown ℕ) (link : Shown Event) (jobs js : List Job) (table : TableState) (proofs : List Report) (many : Many) → Starts look called.random source jobs table proofs
    → (after : TableState) → HasLookedTo after look lasting proof called js table proofs link many → CountsUnsent (journals_of many.outcomes) link.sends link.sends' → js ≡ jobs → NodeRan look lasting proof called source link
ran_of look lasting proof called source link jobs js table proofs many s after h refused same = record {
  jobs = jobs;
  table = table;
  proofs = proofs;
  starts = s;
  many = many;
  looked = (after, h.0, subst (λ (l : List Job). LooksFrom look lasting proof called l table proofs link after h.0 many) same h.1);
  refused = refused;
}

pub outcomes_long : (look : LookWords) (lasting : Lasting) (proof : Option Proof) (called : Called) (jobs js : List Job) (table : TableState) (proofs : List Report) (link : Shown Event) (many : Many) (after : TableState) → HasLookedTo after look lasting proof called jobs table proofs link many → js ≡ jobs → length js ≡ length many.outcomes
outcomes_long look lasting proof called jobs js table proofs link many after h same = ap length same ∙ zip_long _ jobs many.outcomes h.1.each

pub node_text : (look : LookWords) (lasting : Lasting) (proof : Option Proof) (with_table : Bool) (called : Called) (source : Shown ℕ) (link : Shown Event) (r : NodeRan look lasting proof called source link) (js : List Job) (text : List ℕ) → IsInRange look → js ≡ r.jobs → IsPrinted with_table r.looked.0 js r.many text → NodeText look lasting proof with_table called source link text
node_text look lasting proof with_table called source link r js text range same is = record {
  ran = r;
  journals = journals_of r.many.outcomes;
  journals_are = refl;
  each = all_run_out (server_of look proof called.random r.proofs) (each_of look) r.table range.some_path r.jobs r.many.outcomes r.looked.2.each;
  texts = is.0;
  texts_are = all_by_journal (server_of look proof called.random r.proofs) (each_of look) r.table r.jobs r.many.outcomes is.0 r.looked.2.each (subst (λ (l : List Job). AreTextsOf l r.many.outcomes is.0) same is.1);
  text_is = is.2;
}
