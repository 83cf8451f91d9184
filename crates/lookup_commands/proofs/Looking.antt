-- What a command does behind its input that looks up keeps the laws of what is done there. Nothing here names one.
use Rattle.std.proofs.Common.{ℕ, List, [], ◌∷◌, inl, inr, refl}
use Rattle.kad_base.specs.declared.types.Event.{Event}
use Rattle.command_base.specs.declared.status.Status.{Status}
use Rattle.command_base.specs.declared.status.Status.TheVariants.{LinkFault, Strays, NoSeeds}
use Rattle.command_base.specs.Endings.{number_of}
use Rattle.command_base.specs.Input.{AreGoodLines, ReadsAs, ReadsSome}
use Rattle.lookup_commands.specs.Looked.{LookupBegun, NeverInStrays, SeekCause, SeeksWell, Sought, seek_aim}
use Rattle.command_base.specs.Promise.{IsOneOf, reading}
use Rattle.command_base.specs.Shown.{Shown, IsTold, HasFailed}
use Rattle.command_base.specs.Started.{own_of, Start}
use Rattle.command_base.proofs.Exactly.{lines_apart, reads_good, some_not_none}
use Rattle.lookup_commands.proofs.LastStray.{none_good, few_not_last, uncalled_not_last}
use Rattle.command_base.proofs.Lawful.{Lawful}
use Rattle.command_base.proofs.Staged.{Behind, reading_lawful}
use Rattle.command_base.specs.Called.{Called}

module _ (sought : Sought) (called : Called) (source : Shown ℕ) (link : Shown Event) where
  start_seeds : Start sought.look called.random source → ReadsSome (own_of sought.look.own called.random) sought.look.family sought.look.policy source
  start_seeds s = record { contacts = s.contacts; reads = s.reads; some_one = s.some_one }

  well : SeeksWell sought called source link → IsTold source × (¬ HasFailed source) × ReadsAs AreGoodLines source
  well n = (n.told, n.reads, reads_good (own_of sought.look.own called.random) sought.look.family sought.look.policy source n.seeds.contacts n.seeds.reads)

  needed : (s : Status) → SeeksWell sought called source link → ¬ SeekCause sought.kind sought.look called source link s
  needed LinkFault n c = n.hears c.0
  needed Strays n c = n.few_strays c.0
  needed NoSeeds n c = some_not_none (own_of sought.look.own called.random) sought.look.family sought.look.policy source n.told n.seeds c
  needed other n c = c

  in_ends : (s : Status) → SeekCause sought.kind sought.look called source link s → IsOneOf (4 ∷ 7 ∷ 8 ∷ []) (number_of s)
  in_ends LinkFault c = inl refl
  in_ends Strays c = inr (inl refl)
  in_ends NoSeeds c = inr (inr (inl refl))
  in_ends other c = absurd c

module _ (sought : Sought) (text : Called → Shown ℕ → Shown Event → List ℕ → Type 0) (begun : Called → Shown ℕ → Shown Event → Type 0)
    (starts : (called : Called) (source : Shown ℕ) (link : Shown Event) (written : List ℕ) → text called source link written → Start sought.look called.random source)
    (few : (called : Called) (source : Shown ℕ) (link : Shown Event) (written : List ℕ) → text called source link written → NeverInStrays sought.kind sought.look called link)
    (begins : (called : Called) (source : Shown ℕ) (link : Shown Event) → LookupBegun sought.kind sought.look called source link → begun called source link) where
  behind : (called : Called) (source : Shown ℕ) (link : Shown Event) (s : Status) → SeekCause sought.kind sought.look called source link s → Behind (seek_aim sought text begun) called source link s
  behind called source link LinkFault c =
      let seeds = start_seeds sought called source link c.1.start in (
        reads_good (own_of sought.look.own called.random) sought.look.family sought.look.policy source seeds.contacts seeds.reads,
        (c.0, seeds, begins called source link c.1, c.2),
        λ told none_. absurd (some_not_none (own_of sought.look.own called.random) sought.look.family sought.look.policy source told seeds none_),
        λ told early last. absurd (few_not_last sought called link told c.2.never last),
        λ told unsound. absurd unsound,
      )
  behind called source link Strays c =
      let seeds = start_seeds sought called source link c.1.start in (
        reads_good (own_of sought.look.own called.random) sought.look.family sought.look.policy source seeds.contacts seeds.reads,
        (c.0, seeds, begins called source link c.1),
        λ told none_. absurd (some_not_none (own_of sought.look.own called.random) sought.look.family sought.look.policy source told seeds none_),
        λ told early last. inl refl,
        λ told unsound. absurd unsound,
      )
  behind called source link NoSeeds c = (
    reads_good (own_of sought.look.own called.random) sought.look.family sought.look.policy source [] c,
    ((λ refused. refused), c),
    λ told none_. inl refl,
    λ told early last. absurd (uncalled_not_last sought called link told (early (inr (inr (inr (inl refl))))) last),
    λ told unsound. absurd unsound,
  )
  behind called source link other c = absurd c

  pub seeking_lawful : Lawful (reading (seek_aim sought text begun))
  seeking_lawful = reading_lawful (seek_aim sought text begun) (record {
    good = λ called source link written x. let s = starts called source link written x in reads_good (own_of sought.look.own called.random) sought.look.family sought.look.policy source s.contacts s.reads;
    apart = lines_apart;
    seedless = λ called source none_. none_good sought called.random source none_;
    unrestored = λ source unsound. absurd unsound;
    sound = λ called source link written told x unsound. unsound;
    seeded = λ called source link written told x none_. some_not_none (own_of sought.look.own called.random) sought.look.family sought.look.policy source told (start_seeds sought called source link (starts called source link written x)) none_;
    few = λ called source link written told x last. few_not_last sought called link told (few called source link written x) last;
    uncalled = λ called link told same last. uncalled_not_last sought called link told same last;
    behind = λ called source link s c. behind called source link s c;
    well = λ called source link n. well sought called source link n;
    needed = λ called source link s n c. needed sought called source link s n c;
    in_ends = λ called source link s c. in_ends sought called source link s c;
    seeks = λ none_ called source no_one. none_ refl;
    counts = λ none_ called source link last. none_ refl;
    restores = λ none_ source unsound. unsound;
  })
