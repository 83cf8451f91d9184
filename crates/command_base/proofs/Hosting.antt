-- What a command does behind its input that goes on over a link, or over none, keeps the laws of what is done there.
-- Nothing here names one.
use Rattle.std.proofs.Common.{ℕ, List, [], ◌∷◌, inl, refl}
use Rattle.kad_base.specs.declared.types.Event.{Event}
use Rattle.command_base.specs.declared.status.Status.{Status}
use Rattle.command_base.specs.declared.status.Status.TheVariants.{LinkFault}
use Rattle.command_base.specs.Endings.{number_of}
use Rattle.command_base.specs.Input.{IsGood}
use Rattle.command_base.specs.Promise.{HostCause, HostsWell, IsOneOf, host_aim, judge_aim, reading}
use Rattle.command_base.specs.Shown.{Shown}
use Rattle.command_base.proofs.Exactly.{lines_apart, lines_good}
use Rattle.command_base.proofs.Lawful.{Lawful}
use Rattle.command_base.proofs.Staged.{Behind, reading_lawful}
use Rattle.command_base.specs.Called.{Called}

module _ (source : Shown ℕ) (link : Shown Event) (begun : Type 0) where
  needed : (s : Status) → HostsWell source link → ¬ HostCause begun link s
  needed LinkFault n c = n.hears c.0
  needed other n c = c

  in_ends : (s : Status) → HostCause begun link s → IsOneOf (4 ∷ []) (number_of s)
  in_ends LinkFault c = inl refl
  in_ends other c = absurd c

module _ (ranges : Type 0) (text : Called → Shown ℕ → Shown Event → List ℕ → Type 0) (begun : Called → Shown ℕ → Shown Event → Type 0)
    (good : (called : Called) (source : Shown ℕ) (link : Shown Event) (written : List ℕ) → text called source link written → IsGood source)
    (begins : (called : Called) (source : Shown ℕ) (link : Shown Event) → begun called source link → IsGood source) where
  behind : (called : Called) (source : Shown ℕ) (link : Shown Event) (s : Status) → HostCause (begun called source link) link s → Behind (host_aim ranges text begun) called source link s
  behind called source link LinkFault c =
      let well = begins called source link c.1 in
      (lines_good source well, (c.0, well, c.1, tt), λ told none_. absurd none_, λ told early last. absurd last, λ told unsound. absurd unsound)
  behind called source link other c = absurd c

  pub hosting_lawful : Lawful (reading (host_aim ranges text begun))
  hosting_lawful = reading_lawful (host_aim ranges text begun) (record {
    good = λ called source link written t. lines_good source (good called source link written t);
    apart = lines_apart;
    seedless = λ called source none_. absurd none_;
    unrestored = λ source unsound. absurd unsound;
    sound = λ called source link written told t unsound. unsound;
    seeded = λ called source link written told t none_. none_;
    few = λ called source link written told t last. last;
    uncalled = λ called link told same last. last;
    behind = λ called source link s c. behind called source link s c;
    well = λ called source link n. (n.told, n.reads, lines_good source n.good);
    needed = λ called source link s n c. needed source link (begun called source link) s n c;
    in_ends = λ called source link s c. in_ends source link (begun called source link) s c;
    seeks = λ none_ called source no_one. no_one;
    counts = λ none_ called source link last. last;
    restores = λ none_ source unsound. unsound;
  })

pub judging_lawful : (ranges : Type 0) (text : List ℕ → Shown ℕ → List ℕ → Type 0) → ((random : List ℕ) (source : Shown ℕ) (written : List ℕ) → text random source written → IsGood source) → Lawful (reading (judge_aim ranges text))
judging_lawful ranges text good = reading_lawful (judge_aim ranges text) (record {
  good = λ called source link written t. lines_good source (good called.random source written t);
  apart = lines_apart;
  seedless = λ called source none_. absurd none_;
  unrestored = λ source unsound. absurd unsound;
  sound = λ called source link written told t unsound. unsound;
  seeded = λ called source link written told t none_. none_;
  few = λ called source link written told t last. last;
  uncalled = λ called link told same last. last;
  behind = λ called source link s c. absurd c;
  well = λ called source link n. (n.told, n.reads, lines_good source (record { reports = n.reports; lists = n.lists }));
  needed = λ called source link s n c. c;
  in_ends = λ called source link s c. absurd c;
  seeks = λ none_ called source no_one. no_one;
  counts = λ none_ called source link last. last;
  restores = λ none_ source unsound. unsound;
})
