-- What every promise keeps: its ends exclude each other, and each status says the same of whatever command it ends.
use Rattle.std.proofs.Common.{◌≡◌, ℕ, List, IsTrue}
use Rattle.kad_base.specs.declared.types.Event.{Event}
use Rattle.command_base.specs.declared.status.Status.{Status}
use Rattle.command_base.specs.declared.status.Status.TheVariants.{Usage, BadLine, LinkFault, SourceFault, Strays, NoSeeds, NoMemory, Unminted, TooLong, BadValue, Unsound, BadProof}
use Rattle.command_base.specs.Endings.{number_of, EndsUnasked, MayEnd, OrNoMemory}
use Rattle.command_base.specs.Input.{ReadsTooMuch, IsBadLine}
use Rattle.command_base.specs.Promise.{Promise}
use Rattle.command_base.specs.Shown.{Shown, IsTold, HasFailed}
use Rattle.command_base.specs.Called.{Called}

-- what brings a status, whatever else holds
abbrev pub Sign : Promise → Called → Shown ℕ → Shown Event → Status → Type 0
Sign p called source link (BadLine line) = IsBadLine p.bad source line
Sign p called source link NoSeeds = (¬ p.refused) × p.no_seeds called source
Sign p called source link Strays = p.last_stray called link
Sign p called source link Unminted = p.nothing called.random
Sign p called source link TooLong = ReadsTooMuch source.before source.after
Sign p called source link BadValue = p.refused
Sign p called source link Unsound = p.unsound source
Sign p called source link BadProof = p.unproved called.random
Sign p called source link other = ⊥

-- the outside tells enough that the sign of this status decides
abbrev pub IsJudged : Shown ℕ → Shown Event → Status → Type 0
IsJudged source link (BadLine line) = IsTold source × (¬ HasFailed source)
IsJudged source link NoSeeds = IsTold source × (¬ HasFailed source)
IsJudged source link Strays = IsTold link
IsJudged source link TooLong = IsTold source
IsJudged source link Unsound = IsTold source × (¬ HasFailed source)
IsJudged source link other = Unit {0}

-- what a status says of the source and the link, whatever the command is
abbrev pub Means : Promise → Called → Shown ℕ → Shown Event → Status → Type 0
Means p called source link Usage = ⊥
Means p called source link (BadLine line) = IsTrue p.reads × IsBadLine p.bad source line
Means p called source link LinkFault = HasFailed link × p.started called source × p.begun called source link × p.few called source link
Means p called source link SourceFault = IsTrue p.reads × HasFailed source
Means p called source link Strays = p.strays called source link × p.started called source × p.begun called source link
Means p called source link NoSeeds = (¬ p.refused) × p.no_seeds called source
Means p called source link NoMemory = Unit {0}
Means p called source link Unminted = p.nothing called.random
Means p called source link TooLong = IsTrue p.reads × ReadsTooMuch source.before source.after
Means p called source link BadValue = p.refused
Means p called source link Unsound = p.unsound source
Means p called source link BadProof = p.unproved called.random

-- nothing was told before the link was called
abbrev pub IsUncalled : Shown Event → Status → Type 0
IsUncalled link status = EndsUnasked (number_of status) → link.after ≡ link.before

pub record Lawful (p : Promise) : Type 0 where
  -- with its text there is no sign of another end
  pub no_sign : (called : Called) (source : Shown ℕ) (link : Shown Event) (text : List ℕ) (t : Status) → IsJudged source link t → p.text called source link text → Sign p called source link t → ⊥
  -- and with a cause no sign of another than that
  pub one_sign : (called : Called) (source : Shown ℕ) (link : Shown Event) (s t : Status) → IsJudged source link t → IsUncalled link s → p.cause called source link s → Sign p called source link t → OrNoMemory (number_of s) (number_of t)
  -- with what it needs there is no cause but want of memory
  pub needed : (called : Called) (source : Shown ℕ) (link : Shown Event) (s : Status) → p.needs called source link → p.cause called source link s → number_of s ≡ 9
  pub may_end : (called : Called) (source : Shown ℕ) (link : Shown Event) (s : Status) → p.cause called source link s → MayEnd p (number_of s)
  pub means : (called : Called) (source : Shown ℕ) (link : Shown Event) (s : Status) → p.cause called source link s → Means p called source link s
  -- what is looked up is so over the link, and so is who counts strays, what is restored, whose value may be refused and whose
  -- proof; and a search needs none
  pub seeks : ¬ IsTrue p.links → (called : Called) (source : Shown ℕ) → ¬ p.no_seeds called source
  pub counts : ¬ IsTrue p.links → (called : Called) (source : Shown ℕ) (link : Shown Event) → ¬ p.strays called source link
  pub restores : ¬ IsTrue p.links → (source : Shown ℕ) → ¬ p.unsound source
  pub refuses : ¬ IsTrue p.links → ¬ p.refused
  pub vouches : ¬ IsTrue p.links → (random : List ℕ) → ¬ p.unproved random
  pub no_link : (random : List ℕ) → p.nothing random → ¬ IsTrue p.links
