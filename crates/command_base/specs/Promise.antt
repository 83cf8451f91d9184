-- What a command promises: one record of predicates, by what it is called with and by what the source and the link showed.
-- Each command's own stands in its spec, and `promise_of` (`Commands`) is the table of all.
use Rattle.std.specs.Prelude.{◌≡◌, ◌⊎◌, ℕ, List, [], ◌∷◌, Bool, true, false}
use Rattle.kad_base.specs.declared.types.Event.{Event}
use Rattle.command_base.specs.declared.status.Status.{Status}
use Rattle.command_base.specs.declared.status.Status.TheVariants.{BadLine, LinkFault, SourceFault, NoMemory, Unminted, TooLong, BadValue, BadProof}
use Rattle.command_base.specs.Input.{ReadsFew, ReadsTooMuch, ReadsWell, IsBadLine, IsGood, AreGoodLines, IsBadContactLine}
use Rattle.command_base.specs.Shown.{Shown, IsTold, HasFailed}
use Rattle.command_base.specs.Called.{Called}

pub record Promise : Type 1 where
  -- whether it reads the input, and takes the link
  pub reads : Bool
  pub links : Bool
  -- the line of this number of an input is bad: which lines are depends on what is read
  pub bad : List ℕ → ℕ → Type 0
  -- an input without a bad line is a saved table that isn't sound
  pub unsound : Shown ℕ → Type 0
  -- an input without a bad line gives it nobody to begin with, where it looks something up
  pub no_seeds : Called → Shown ℕ → Type 0
  -- the link's events show by themselves that they end with the last stray that it takes
  pub last_stray : Called → Shown Event → Type 0
  -- the link's events end with the last stray that it takes; and there were fewer
  pub strays : Called → Shown ℕ → Shown Event → Type 0
  pub few : Called → Shown ℕ → Shown Event → Type 0
  -- the statuses that it may end with besides 0 (done), 5 (cut short) and 9 (no memory)
  pub ends : List ℕ
  -- the values of its words are within the limits
  pub ranges : Type 0
  -- its text
  pub text : Called → Shown ℕ → Shown Event → List ℕ → Type 0
  -- what it had read before it called the link
  pub started : Called → Shown ℕ → Type 0
  -- what it had done over the link when it ended early
  pub begun : Called → Shown ℕ → Shown Event → Type 0
  -- what it searches for isn't there to be found
  pub nothing : List ℕ → Type 0
  -- its words have a value that it refuses before it reads anything
  pub refused : Type 0
  -- its words have a proof that doesn't show that its own identifier was made
  pub unproved : List ℕ → Type 0
  -- why it has no text
  pub cause : Called → Shown ℕ → Shown Event → Status → Type 0
  -- what it needs to have one
  pub needs : Called → Shown ℕ → Shown Event → Type 0

-- one of these numbers
abbrev pub IsOneOf : List ℕ → ℕ → Type 0
IsOneOf [] n = ⊥
IsOneOf (x ∷ xs) n = (n ≡ x) ⊎ IsOneOf xs n

-- ---- a command that reads an input

-- what it does behind its input; the fields are those of its promise, where `ends` and `cause` leave out what any input
-- brings
pub record Aim : Type 1 where
  pub links : Bool
  -- what an input is that it goes on with
  pub good : List ℕ → Type 0
  pub bad : List ℕ → ℕ → Type 0
  pub unsound : Shown ℕ → Type 0
  pub no_seeds : Called → Shown ℕ → Type 0
  pub last_stray : Called → Shown Event → Type 0
  pub strays : Called → Shown ℕ → Shown Event → Type 0
  pub few : Called → Shown ℕ → Shown Event → Type 0
  pub ends : List ℕ
  pub ranges : Type 0
  pub text : Called → Shown ℕ → Shown Event → List ℕ → Type 0
  pub started : Called → Shown ℕ → Type 0
  pub begun : Called → Shown ℕ → Shown Event → Type 0
  pub cause : Called → Shown ℕ → Shown Event → Status → Type 0
  pub needs : Called → Shown ℕ → Shown Event → Type 0

-- why the bytes of an input were not read to their end
abbrev pub WholeCause : Shown ℕ → Status → Type 0
WholeCause source SourceFault = HasFailed source × ReadsFew source.before source.after
WholeCause source NoMemory = Unit {0}
WholeCause source TooLong = ReadsTooMuch source.before source.after
WholeCause source other = ⊥

-- why an input, of which these lines are bad, or what is done behind it, ended with no text
abbrev pub ReadingCause : (List ℕ → ℕ → Type 0) → (Status → Type 0) → Shown ℕ → Status → Type 0
ReadingCause bad behind source (BadLine line) = IsBadLine bad source line
ReadingCause bad behind source SourceFault = HasFailed source × ReadsFew source.before source.after
ReadingCause bad behind source NoMemory = Unit {0}
ReadingCause bad behind source TooLong = ReadsTooMuch source.before source.after
ReadingCause bad behind source other = behind other

abbrev pub reading : Aim → Promise
reading aim = record {
  reads = true;
  links = aim.links;
  bad = aim.bad;
  unsound = aim.unsound;
  no_seeds = aim.no_seeds;
  last_stray = aim.last_stray;
  strays = aim.strays;
  few = aim.few;
  ends = 3 ∷ 6 ∷ 11 ∷ aim.ends;
  ranges = aim.ranges;
  text = aim.text;
  started = aim.started;
  begun = aim.begun;
  nothing = λ random. ⊥;
  refused = ⊥;
  unproved = λ random. ⊥;
  cause = λ called source link status. ReadingCause aim.bad (aim.cause called source link) source status;
  needs = aim.needs;
}

-- what a command does behind its input that takes no link: nothing ends it but want of memory
abbrev pub judge_aim : Type 0 → (List ℕ → Shown ℕ → List ℕ → Type 0) → Aim
judge_aim ranges text = record {
  links = false;
  good = AreGoodLines;
  bad = IsBadContactLine;
  unsound = λ source. ⊥;
  no_seeds = λ called source. ⊥;
  last_stray = λ called link. ⊥;
  strays = λ called source link. ⊥;
  few = λ called source link. Unit {0};
  ends = [];
  ranges = ranges;
  text = λ called source link written. text called.random source written;
  started = λ called source. ⊥;
  begun = λ called source link. ⊥;
  cause = λ called source link status. ⊥;
  needs = λ called source link. ReadsWell source;
}

-- why a command ended that goes on over a link, and looks nothing up
abbrev pub HostCause : Type 0 → Shown Event → Status → Type 0
HostCause begun link LinkFault = HasFailed link × begun
HostCause begun link other = ⊥

-- what it needs: a good input and no failure
pub record HostsWell (source : Shown ℕ) (link : Shown Event) : Type 0 where
  pub told : IsTold source
  pub reads : ¬ HasFailed source
  pub hears : ¬ HasFailed link
  pub good : IsGood source

-- what such a command does, by its text and by what it had done when it ended early
abbrev pub host_aim : Type 0 → (Called → Shown ℕ → Shown Event → List ℕ → Type 0) → (Called → Shown ℕ → Shown Event → Type 0) → Aim
host_aim ranges text begun = record {
  links = true;
  good = AreGoodLines;
  bad = IsBadContactLine;
  unsound = λ source. ⊥;
  no_seeds = λ called source. ⊥;
  last_stray = λ called link. ⊥;
  strays = λ called source link. ⊥;
  few = λ called source link. Unit {0};
  ends = 4 ∷ [];
  ranges = ranges;
  text = text;
  started = λ called source. IsGood source;
  begun = begun;
  cause = λ called source link status. HostCause (begun called source link) link status;
  needs = λ called source link. HostsWell source link;
}

-- ---- a command that is given a value, and first of all looks whether it is good

-- why it has no text: the value isn't good, and nothing was read; or it is, and what it does then has none
abbrev pub ValueCause : Type 0 → (Status → Type 0) → Shown ℕ → Status → Type 0
ValueCause good behind source BadValue = (¬ good) × (source.after ≡ source.before)
ValueCause good behind source NoMemory = Unit {0}
ValueCause good behind source other = good × behind other

-- what it promises, by whether its value is good and by what it does then
abbrev pub valued : Type 0 → Aim → Promise
valued good aim = record {
  reads = true;
  links = aim.links;
  bad = aim.bad;
  unsound = aim.unsound;
  no_seeds = aim.no_seeds;
  last_stray = aim.last_stray;
  strays = aim.strays;
  few = aim.few;
  ends = 12 ∷ 3 ∷ 6 ∷ 11 ∷ aim.ends;
  ranges = aim.ranges;
  text = λ called source link written. good × aim.text called source link written;
  started = aim.started;
  begun = aim.begun;
  nothing = λ random. ⊥;
  refused = ¬ good;
  unproved = λ random. ⊥;
  cause = λ called source link status. ValueCause good (λ s. ReadingCause aim.bad (aim.cause called source link) source s) source status;
  needs = λ called source link. good × aim.needs called source link;
}

-- ---- a command that may be given a proof of its own identifier, and first of all looks whether it is one

-- why it has no text: the proof is none of it, and nothing was read; or it is, and what it does then has none
abbrev pub ProofCause : Type 0 → (Status → Type 0) → Shown ℕ → Status → Type 0
ProofCause good behind source BadProof = (¬ good) × (source.after ≡ source.before)
ProofCause good behind source NoMemory = Unit {0}
ProofCause good behind source other = good × behind other

-- what it promises, by whether its proof is good, for these random bytes, and by what it does then
abbrev pub vouched : (List ℕ → Type 0) → Aim → Promise
vouched good aim = record {
  reads = true;
  links = aim.links;
  bad = aim.bad;
  unsound = aim.unsound;
  no_seeds = λ called source. good called.random × aim.no_seeds called source;
  last_stray = aim.last_stray;
  strays = aim.strays;
  few = aim.few;
  ends = 15 ∷ 3 ∷ 6 ∷ 11 ∷ aim.ends;
  ranges = aim.ranges;
  text = λ called source link written. good called.random × aim.text called source link written;
  started = aim.started;
  begun = aim.begun;
  nothing = λ random. ⊥;
  refused = ⊥;
  unproved = λ random. ¬ good random;
  cause = λ called source link status. ProofCause (good called.random) (λ s. ReadingCause aim.bad (aim.cause called source link) source s) source status;
  needs = λ called source link. good called.random × aim.needs called source link;
}

-- ---- a command that reads nothing and takes no link

-- why it has no text: there is nothing to be found, or no memory
abbrev pub UnreadCause : Type 0 → Shown ℕ → Status → Type 0
UnreadCause nothing source Unminted = nothing × (source.after ≡ source.before)
UnreadCause nothing source NoMemory = Unit {0}
UnreadCause nothing source other = ⊥

-- its text is made from the random bytes alone
abbrev pub unread : List ℕ → Type 0 → (List ℕ → List ℕ → Type 0) → (List ℕ → Type 0) → Promise
unread ends ranges text nothing = record {
  reads = false;
  links = false;
  bad = IsBadContactLine;
  unsound = λ source. ⊥;
  no_seeds = λ called source. ⊥;
  last_stray = λ called link. ⊥;
  strays = λ called source link. ⊥;
  few = λ called source link. Unit {0};
  ends = ends;
  ranges = ranges;
  text = λ called source link written. text called.random written × (source.after ≡ source.before);
  started = λ called source. ⊥;
  begun = λ called source link. ⊥;
  nothing = nothing;
  refused = ⊥;
  unproved = λ random. ⊥;
  cause = λ called source link status. UnreadCause (nothing called.random) source status;
  needs = λ called source link. ¬ nothing called.random;
}

-- why an input gave no reports
abbrev pub ReportsCause : Shown ℕ → Status → Type 0
ReportsCause source status = ReadingCause IsBadContactLine (λ other. ⊥) source status
