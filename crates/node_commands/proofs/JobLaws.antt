-- The lines of an input that names what is looked for say one thing, or there is one first bad line.
use Rattle.std.proofs.Common.{◌≡◌, ℕ, suc, ◌+◌, ◌<◌, ◌≤◌, List, [], ◌∷◌, ◌++◌, length, take, drop, Some, None, ◌⊎◌, inl, inr, refl, sym, ap, subst, ◌∙◌, arith}
use Rattle.std.specs.Prelude.{flat_map}
use Rattle.std.specs.List.{AllByRecursion, AllZip, enumerate_from}
use Rattle.std.specs.Str.Lines.{strip_carriage_return}
use Rattle.std.proofs.lemmas.Grind.{flat_map-append}
use Rattle.std.proofs.lemmas.List.{append-nil, take_all, take-append-drop, drop_more, length-append, length-take-le}
use Rattle.std.proofs.lemmas.List.FromFn.{length-enumerate_from}
use Rattle.kad_base.specs.declared.types.Report.{Report}
use Rattle.kad_base.specs.Limits.{max_lookups}
use Rattle.look_many.specs.Job.{MaySayOf}
use Rattle.look_many.specs.declared.job.Job.{Job}
use Rattle.node_commands.specs.declared.jobs.InputLine.{InputLine}
use Rattle.node_commands.specs.declared.jobs.InputLine.TheVariants.{Nothing, Told, Wanted}
use Rattle.kad_text.specs.Lines.{IsBad}
use Rattle.node_commands.specs.JobLines.{IsBadBehind, IsFirstBadBehind, IsJobLine, Naming, Says, SaysMore, job_in, report_in}
use Rattle.kad_text.proofs.LineLaws.{AllZip-push, IsTurn, turned}
use Rattle.kad_text.proofs.TextLaws.{contact_once, not_passed_over}
use Rattle.node_commands.proofs.JobForms.{job_carried, job_not_contact, job_not_passed, job_once}

-- ---- a line says one thing

said_once : (line : List ℕ) (a b : InputLine) → Says line a → Says line b → a ≡ b
said_once line Nothing Nothing s t = refl
said_once line Nothing (Told b) s t = absurd (not_passed_over _ b t s)
said_once line Nothing (Wanted b) s t = absurd (job_not_passed _ b t s)
said_once line (Told a) Nothing s t = absurd (not_passed_over _ a s t)
said_once line (Told a) (Told b) s t = ap Told (contact_once _ a b s t)
said_once line (Told a) (Wanted b) s t = absurd (job_not_contact _ b a t s)
said_once line (Wanted a) Nothing s t = absurd (job_not_passed _ a s t)
said_once line (Wanted a) (Told b) s t = absurd (job_not_contact _ a b s t)
said_once line (Wanted a) (Wanted b) s t = ap Wanted (job_once _ a b s t)

all_said_once : (input : List (List ℕ)) (a b : List InputLine) → AllZip Says input a → AllZip Says input b → a ≡ b
all_said_once [] [] [] s t = refl
all_said_once [] [] (y ∷ b) s t = absurd t
all_said_once [] (x ∷ a) b s t = absurd s
all_said_once (line ∷ input) [] b s t = absurd s
all_said_once (line ∷ input) (x ∷ a) [] s t = absurd t
all_said_once (line ∷ input) (x ∷ a) (y ∷ b) s t = ap (λ (z : InputLine). z ∷ a) (said_once line x y s.0 t.0) ∙ ap (λ (l : List InputLine). y ∷ l) (all_said_once input a b s.1 t.1)

-- an input names one thing
pub reports_once : (input : List (List ℕ)) (a b : List Report) (x y : List Job) → Naming input a x → Naming input b y → a ≡ b
reports_once input a b x y s t = s.reports_are ∙ ap (flat_map report_in) (all_said_once input s.said t.said s.each t.each) ∙ sym t.reports_are

pub jobs_once : (input : List (List ℕ)) (a b : List Report) (x y : List Job) → Naming input a x → Naming input b y → x ≡ y
jobs_once input a b x y s t = s.jobs_are ∙ ap (flat_map job_in) (all_said_once input s.said t.said s.each t.each) ∙ sym t.jobs_are

-- a line that is none of them
pub unsaid : (line text : List ℕ) → text ≡ strip_carriage_return line → ((job : Job) → ¬ IsJobLine text job) → IsBad line → (said : InputLine) → ¬ Says line said
unsaid line text same f b Nothing s = b None s
unsaid line text same f b (Told report) s = b (Some report) s
unsaid line text same f b (Wanted job) s = f job (subst (λ (l : List ℕ). IsJobLine l job) (sym same) s)

-- ---- a bad line stands in no input that is read

-- what the lines of a split input say
record Cut (before after : List (List ℕ)) (line : List ℕ) (said : List InputLine) : Type 0 where
  pub front : List InputLine
  pub it : InputLine
  pub back : List InputLine
  pub whole_is : said ≡ front ++ it ∷ back
  pub each : AllZip Says before front
  pub says : Says line it

cut : (before after : List (List ℕ)) (line : List ℕ) (said : List InputLine) → AllZip Says (before ++ line ∷ after) said → Cut before after line said
cut [] after line [] s = absurd s
cut [] after line (x ∷ said) s = record { front = []; it = x; back = said; whole_is = refl; each = tt; says = s.0 }
cut (l ∷ before) after line [] s = absurd s
cut (l ∷ before) after line (x ∷ said) s =
    let c = cut before after line said s.1 in
    record { front = x ∷ c.front; it = c.it; back = c.back; whole_is = ap (λ (r : List InputLine). x ∷ r) c.whole_is; each = (s.0, c.each); says = c.says }

-- the jobs of a front and a line are no more than those of all
front_few : (front back : List InputLine) (it : InputLine) → length (flat_map job_in front ++ job_in it) ≤ length (flat_map job_in (front ++ it ∷ back))
front_few front back it =
    let all = ap length (flat_map-append job_in front (it ∷ back)) in
    let first = length-append (flat_map job_in front) (flat_map job_in (it ∷ back)) in
    let second = length-append (job_in it) (flat_map job_in back) in
    let short = length-append (flat_map job_in front) (job_in it) in
    omega (arith, all, first, second, short)

pub named_or_bad : (input : List (List ℕ)) (reports : List Report) (jobs : List Job) (number : ℕ) → Naming input reports jobs → IsFirstBadBehind input number → ⊥
named_or_bad input reports jobs number n f =
    let c = cut f.before f.after f.line n.said (subst (λ (l : List (List ℕ)). AllZip Says l n.said) f.split n.each) in
    let same = all_said_once f.before f.good.said c.front f.good.each c.each in
    let named : f.jobs ≡ flat_map job_in c.front = f.good.jobs_are ∙ ap (flat_map job_in) same in
    let much = subst (λ (t : List Job). max_lookups < length (t ++ job_in c.it)) named (f.bad c.it c.says) in
    let all = ap length (n.jobs_are ∙ ap (flat_map job_in) c.whole_is) in
    let few = n.few in
    let less = front_few c.front c.back c.it in
    absurd (omega (arith, much, all, few, less))

-- where two lines stand in one list: at one place, or one before the other
order_of : (a b c d : List (List ℕ)) (x y : List ℕ) → a ++ x ∷ c ≡ b ++ y ∷ d → (length a ≡ length b) ⊎ ((m : List (List ℕ)) × (b ≡ a ++ x ∷ m)) ⊎ ((m : List (List ℕ)) × (a ≡ b ++ y ∷ m))
order_of [] [] c d x y e = inl refl
order_of [] (l ∷ b) c d x y e = let same : l ≡ x = cc in inr (inl (b, ap (λ (q : List ℕ). q ∷ b) same))
order_of (l ∷ a) [] c d x y e = let same : l ≡ y = cc in inr (inr (a, ap (λ (q : List ℕ). q ∷ a) same))
order_of (l ∷ a) (m ∷ b) c d x y e =
    let rest : a ++ x ∷ c ≡ b ++ y ∷ d = cc in
    let same : l ≡ m = cc in
    elim (order_of a b c d x y rest) [
      | inl long ↦ inl (ap suc long)
      | inr either ↦ elim either [
        | inl p ↦ inr (inl (p.0, ap (λ (q : List ℕ). q ∷ b) (sym same) ∙ ap (λ (t : List (List ℕ)). l ∷ t) p.1))
        | inr p ↦ inr (inr (p.0, ap (λ (q : List ℕ). q ∷ a) same ∙ ap (λ (t : List (List ℕ)). m ∷ t) p.1))
      ]
    ]

-- the first bad line of lines that go on with others
first_in : (input : List (List ℕ)) (number : ℕ) (f : IsFirstBadBehind input number) (front more : List (List ℕ)) → front ≡ f.before ++ f.line ∷ more → IsFirstBadBehind front number
first_in input number f front more e = record {
  before = f.before;
  line = f.line;
  after = more;
  split = e;
  place = f.place;
  reports = f.reports;
  jobs = f.jobs;
  good = f.good;
  bad = f.bad;
}

pub bad_behind_once : (input : List (List ℕ)) (m n : ℕ) → IsFirstBadBehind input m → IsFirstBadBehind input n → m ≡ n
bad_behind_once input m n f g =
    elim (order_of f.before g.before f.after g.after f.line g.line (sym f.split ∙ g.split)) [
      | inl long ↦ f.place ∙ ap (λ (k : ℕ). k + 1) long ∙ sym g.place
      | inr either ↦ elim either [
        | inl p ↦ absurd (named_or_bad g.before g.reports g.jobs m g.good (first_in input m f g.before p.0 p.1))
        | inr p ↦ absurd (named_or_bad f.before f.reports f.jobs n f.good (first_in input n g f.before p.0 p.1))
      ]
    ]

-- ---- one line more

flat_push : {A B : Type 0} (f : A → List B) (xs : List A) (x : A) → flat_map f xs ++ f x ≡ flat_map f (xs ++ x ∷ [])
flat_push {A} {B} f xs x = ap (λ (l : List B). flat_map f xs ++ l) (sym (append-nil (f x))) ∙ sym (flat_map-append f xs (x ∷ []))

naming_push : (input : List (List ℕ)) (reports reports' : List Report) (jobs jobs' : List Job) (line : List ℕ) → Naming input reports jobs → SaysMore line reports jobs reports' jobs' → Naming (input ++ line ∷ []) reports' jobs'
naming_push input reports reports' jobs jobs' line n m = record {
  said = n.said ++ m.said ∷ [];
  each = AllZip-push Says input n.said line m.said n.each m.says;
  reports_are = m.reports_are ∙ ap (λ (l : List Report). l ++ report_in m.said) n.reports_are ∙ flat_push report_in n.said m.said;
  jobs_are = m.jobs_are ∙ ap (λ (l : List Job). l ++ job_in m.said) n.jobs_are ∙ flat_push job_in n.said m.said;
  few = m.few;
}

pub turn_more : (input : List (List ℕ)) (reports reports' : List Report) (jobs jobs' : List Job) (n m i : ℕ) (line : List ℕ) → IsTurn input n i line → m ≡ n + 1 → Naming (take n input) reports jobs → SaysMore line reports jobs reports' jobs'
    → Naming (take m input) reports' jobs'
turn_more input reports reports' jobs jobs' n m i line t e r s = rw (e, turned input n i line t) (naming_push (take n input) reports reports' jobs jobs' line r s)

pub turn_unsaid : (input : List (List ℕ)) (reports : List Report) (jobs : List Job) (n i number : ℕ) (line : List ℕ) → IsTurn input n i line → Naming (take n input) reports jobs → IsBadBehind jobs line → number ≡ i + 1 → IsFirstBadBehind input number
turn_unsaid input reports jobs n i number line t r b e =
    let lt = t.inside in
    let index = t.index in
    record {
      before = take n input;
      line = line;
      after = drop (n + 1) input;
      split = sym (take-append-drop n input) ∙ ap (λ (l : List (List ℕ)). take n input ++ l) (drop_more input n line lt ∙ ap (λ (x : List ℕ). x ∷ drop (n + 1) input) (sym t.is));
      place = rw (length-take-le n input (omega arith)) (omega arith);
      reports = reports;
      jobs = jobs;
      good = r;
      bad = b;
    }

pub names_end : (input : List (List ℕ)) (reports : List Report) (jobs : List Job) (n : ℕ) → n ≡ length (enumerate_from 0 input) → Naming (take n input) reports jobs → Naming input reports jobs
names_end input reports jobs n e r =
    let all : take n input ≡ input = take_all n input (rw (e, length-enumerate_from) (omega arith)) in
    rw all at r

-- ---- what is bad behind others

pub one_too_many : (jobs : List Job) (line : List ℕ) (job : Job) → Says line (Wanted job) → max_lookups < length (jobs ++ job ∷ []) → IsBadBehind jobs line
one_too_many jobs line job s much said says =
    let same = said_once line (Wanted job) said s says in
    subst (λ (x : InputLine). max_lookups < length (jobs ++ job_in x)) same much

-- ---- what the jobs have to say may stand in messages

all_carried : (input : List (List ℕ)) (said : List InputLine) → AllZip Says input said → AllByRecursion MaySayOf (flat_map job_in said)
all_carried [] [] h = tt
all_carried [] (x ∷ said) h = absurd h
all_carried (line ∷ input) [] h = absurd h
all_carried (line ∷ input) (Nothing ∷ said) h = all_carried input said h.1
all_carried (line ∷ input) (Told report ∷ said) h = all_carried input said h.1
all_carried (line ∷ input) (Wanted job ∷ said) h = (job_carried (strip_carriage_return line) job h.0, all_carried input said h.1)

pub jobs_carried : (input : List (List ℕ)) (reports : List Report) (jobs : List Job) → Naming input reports jobs → AllByRecursion MaySayOf jobs
jobs_carried input reports jobs n = subst (AllByRecursion MaySayOf) (sym n.jobs_are) (all_carried input n.said n.each)
