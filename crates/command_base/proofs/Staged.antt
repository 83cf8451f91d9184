-- What a command does behind its input keeps laws of its own; then the command that reads it keeps those of every promise.
-- So does a command that reads nothing.
use Rattle.std.proofs.Common.{◌≡◌, ℕ, List, [], IsTrue, inl, inr, refl, true≢false, sym}
use Rattle.kad_base.specs.declared.types.Event.{Event}
use Rattle.command_base.specs.declared.status.Status.{Status}
use Rattle.command_base.specs.declared.status.Status.TheVariants.{BadLine, SourceFault, Strays, NoSeeds, NoMemory, Unminted, TooLong, Unsound}
use Rattle.command_base.specs.Endings.{number_of, MayEnd, OrNoMemory}
use Rattle.command_base.specs.Input.{ReadsAs}
use Rattle.command_base.specs.Promise.{Aim, IsOneOf, ReadingCause, reading, UnreadCause, unread}
use Rattle.command_base.specs.Shown.{Shown, IsTold, HasFailed}
use Rattle.command_base.proofs.Exactly.{all_few, unread_few, few_not_much, unread_not_bad, good_not_bad, good_few}
use Rattle.command_base.proofs.Lawful.{Sign, IsJudged, Means, IsUncalled, Lawful}
use Rattle.command_base.specs.Called.{Called}

-- ---- behind an input

-- what a cause says that comes behind one: the input was good, what the status means, and that it is the one which a lookup
-- without seeds, or with its last stray, or a saved table that isn't sound brings
abbrev pub Behind : Aim → Called → Shown ℕ → Shown Event → Status → Type 0
Behind aim called source link status =
    ReadsAs aim.good source × Means (reading aim) called source link status
    × (IsTold source → aim.no_seeds called source → OrNoMemory (number_of status) 8)
    × (IsTold link → IsUncalled link status → aim.last_stray called link → OrNoMemory (number_of status) 7)
    × (IsTold source → aim.unsound source → OrNoMemory (number_of status) 13)

pub record LawfulAim (aim : Aim) : Type 0 where
  pub good : (called : Called) (source : Shown ℕ) (link : Shown Event) (text : List ℕ) → aim.text called source link text → ReadsAs aim.good source
  pub apart : (input : List ℕ) (number : ℕ) → aim.good input → aim.bad input number → ⊥
  pub seedless : (called : Called) (source : Shown ℕ) → aim.no_seeds called source → ReadsAs aim.good source
  pub unrestored : (source : Shown ℕ) → aim.unsound source → ReadsAs aim.good source
  pub sound : (called : Called) (source : Shown ℕ) (link : Shown Event) (text : List ℕ) → IsTold source → aim.text called source link text → ¬ aim.unsound source
  pub seeded : (called : Called) (source : Shown ℕ) (link : Shown Event) (text : List ℕ) → IsTold source → aim.text called source link text → ¬ aim.no_seeds called source
  pub few : (called : Called) (source : Shown ℕ) (link : Shown Event) (text : List ℕ) → IsTold link → aim.text called source link text → ¬ aim.last_stray called link
  -- nor where nothing was told
  pub uncalled : (called : Called) (link : Shown Event) → IsTold link → link.after ≡ link.before → ¬ aim.last_stray called link
  pub behind : (called : Called) (source : Shown ℕ) (link : Shown Event) (s : Status) → aim.cause called source link s → Behind aim called source link s
  pub well : (called : Called) (source : Shown ℕ) (link : Shown Event) → aim.needs called source link → IsTold source × (¬ HasFailed source) × ReadsAs aim.good source
  pub needed : (called : Called) (source : Shown ℕ) (link : Shown Event) (s : Status) → aim.needs called source link → ¬ aim.cause called source link s
  pub in_ends : (called : Called) (source : Shown ℕ) (link : Shown Event) (s : Status) → aim.cause called source link s → IsOneOf aim.ends (number_of s)
  pub seeks : ¬ IsTrue aim.links → (called : Called) (source : Shown ℕ) → ¬ aim.no_seeds called source
  pub counts : ¬ IsTrue aim.links → (called : Called) (source : Shown ℕ) (link : Shown Event) → ¬ aim.strays called source link
  pub restores : ¬ IsTrue aim.links → (source : Shown ℕ) → ¬ aim.unsound source

module _ (aim : Aim) (law : LawfulAim aim) (called : Called) (source : Shown ℕ) (link : Shown Event) where
  not_bad : (number : ℕ) → IsTold source → ReadsAs aim.good source → Sign (reading aim) called source link (BadLine number) → ⊥
  not_bad number told good d = good_not_bad aim.good aim.bad law.apart source number told good d

  no_sign : (text : List ℕ) (t : Status) → IsJudged source link t → aim.text called source link text → Sign (reading aim) called source link t → ⊥
  no_sign text (BadLine line) j x d = not_bad line j.0 (law.good called source link text x) d
  no_sign text NoSeeds j x d = law.seeded called source link text j.0 x d.1
  no_sign text Strays j x d = law.few called source link text j x d
  no_sign text TooLong j x d = few_not_much source.before source.after j (good_few aim.good source (law.good called source link text x)) d
  no_sign text Unsound j x d = law.sound called source link text j.0 x d
  no_sign text other j x d = d

  with_bad : (line : ℕ) (s : Status) → IsJudged source link (BadLine line) → ReadingCause aim.bad (aim.cause called source link) source s → Sign (reading aim) called source link (BadLine line) → OrNoMemory (number_of s) 3
  with_bad line (BadLine other) j c d = inl refl
  with_bad line SourceFault j c d = absurd (j.1 c.0)
  with_bad line NoMemory j c d = inr refl
  with_bad line TooLong j c d = absurd (few_not_much source.before source.after j.0 (all_few source.before source.after d.input d.read) c)
  with_bad line s j c d = let b = law.behind called source link s c in absurd (not_bad line j.0 b.0 d)

  with_none : (s : Status) → IsJudged source link NoSeeds → ReadingCause aim.bad (aim.cause called source link) source s → aim.no_seeds called source → OrNoMemory (number_of s) 8
  with_none (BadLine line) j c d = absurd (not_bad line j.0 (law.seedless called source d) c)
  with_none SourceFault j c d = absurd (j.1 c.0)
  with_none NoMemory j c d = inr refl
  with_none TooLong j c d = absurd (few_not_much source.before source.after j.0 (good_few aim.good source (law.seedless called source d)) c)
  with_none s j c d = let b = law.behind called source link s c in b.2 j.0 d

  with_strays : (s : Status) → IsTold link → IsUncalled link s → ReadingCause aim.bad (aim.cause called source link) source s → aim.last_stray called link → OrNoMemory (number_of s) 7
  with_strays (BadLine line) j early c d = absurd (law.uncalled called link j (early (inr (inl refl))) d)
  with_strays SourceFault j early c d = absurd (law.uncalled called link j (early (inr (inr (inl refl)))) d)
  with_strays NoMemory j early c d = inr refl
  with_strays TooLong j early c d = absurd (law.uncalled called link j (early (inr (inr (inr (inr (inr (inl refl))))))) d)
  with_strays s j early c d = let b = law.behind called source link s c in b.3 j early d

  with_much : (s : Status) → IsTold source → ReadingCause aim.bad (aim.cause called source link) source s → Sign (reading aim) called source link TooLong → OrNoMemory (number_of s) 11
  with_much (BadLine line) j c d = absurd (few_not_much source.before source.after j (all_few source.before source.after c.input c.read) d)
  with_much SourceFault j c d = absurd (few_not_much source.before source.after j c.1 d)
  with_much NoMemory j c d = inr refl
  with_much TooLong j c d = inl refl
  with_much s j c d = let b = law.behind called source link s c in absurd (few_not_much source.before source.after j (good_few aim.good source b.0) d)

  with_unsound : (s : Status) → IsJudged source link Unsound → ReadingCause aim.bad (aim.cause called source link) source s → aim.unsound source → OrNoMemory (number_of s) 13
  with_unsound (BadLine line) j c d = absurd (not_bad line j.0 (law.unrestored source d) c)
  with_unsound SourceFault j c d = absurd (j.1 c.0)
  with_unsound NoMemory j c d = inr refl
  with_unsound TooLong j c d = absurd (few_not_much source.before source.after j.0 (good_few aim.good source (law.unrestored source d)) c)
  with_unsound s j c d = let b = law.behind called source link s c in b.4 j.0 d

  one_sign : (s t : Status) → IsJudged source link t → IsUncalled link s → ReadingCause aim.bad (aim.cause called source link) source s → Sign (reading aim) called source link t → OrNoMemory (number_of s) (number_of t)
  one_sign s (BadLine line) j early c d = with_bad line s j c d
  one_sign s NoSeeds j early c d = with_none s j c d.1
  one_sign s Strays j early c d = with_strays s j early c d
  one_sign s TooLong j early c d = with_much s j c d
  one_sign s Unsound j early c d = with_unsound s j c d
  one_sign s t j early c d = absurd d

  needed : (s : Status) → aim.needs called source link → ReadingCause aim.bad (aim.cause called source link) source s → number_of s ≡ 9
  needed (BadLine line) n c = let well = law.well called source link n in absurd (not_bad line well.0 well.2 c)
  needed SourceFault n c = let well = law.well called source link n in absurd (well.1 c.0)
  needed NoMemory n c = refl
  needed TooLong n c = let well = law.well called source link n in absurd (few_not_much source.before source.after well.0 (good_few aim.good source well.2) c)
  needed s n c = absurd (law.needed called source link s n c)

  may_end : (s : Status) → ReadingCause aim.bad (aim.cause called source link) source s → MayEnd (reading aim) (number_of s)
  may_end (BadLine line) c = inr (inr (inr (inl refl)))
  may_end SourceFault c = inr (inr (inr (inr (inl refl))))
  may_end NoMemory c = inr (inr (inl refl))
  may_end TooLong c = inr (inr (inr (inr (inr (inl refl)))))
  may_end s c = inr (inr (inr (inr (inr (inr (law.in_ends called source link s c))))))

  means : (s : Status) → ReadingCause aim.bad (aim.cause called source link) source s → Means (reading aim) called source link s
  means (BadLine line) c = (refl, c)
  means SourceFault c = (refl, c.0)
  means NoMemory c = tt
  means TooLong c = (refl, c)
  means s c = let b = law.behind called source link s c in b.1

pub reading_lawful : (aim : Aim) → LawfulAim aim → Lawful (reading aim)
reading_lawful aim law = record {
  no_sign = λ called source link text t j x d. no_sign aim law called source link text t j x d;
  one_sign = λ called source link s t j early c d. one_sign aim law called source link s t j early c d;
  needed = λ called source link s n c. needed aim law called source link s n c;
  may_end = λ called source link s c. may_end aim law called source link s c;
  means = λ called source link s c. means aim law called source link s c;
  seeks = law.seeks;
  counts = law.counts;
  restores = law.restores;
  refuses = λ none_ refused. refused;
  vouches = λ none_ random unproved. unproved;
  no_link = λ random nothing links. nothing;
}

-- ---- with no input

module _ (ends : List ℕ) (ranges : Type 0) (text : List ℕ → List ℕ → Type 0) (nothing : List ℕ → Type 0)
    (apart : (random written : List ℕ) → text random written → nothing random → ⊥) (ended : (random : List ℕ) → nothing random → IsOneOf ends 10) (called : Called) (source : Shown ℕ) (link : Shown Event) where
  unread_sign : (written : List ℕ) (t : Status) → IsJudged source link t → text called.random written × (source.after ≡ source.before) → Sign (unread ends ranges text nothing) called source link t → ⊥
  unread_sign written (BadLine line) j x d = unread_not_bad source line j.0 x.1 d
  unread_sign written NoSeeds j x d = d.1
  unread_sign written Unminted j x d = apart called.random written x.0 d
  unread_sign written TooLong j x d = few_not_much source.before source.after j (unread_few source.before source.after x.1) d
  unread_sign written other j x d = d

  unread_one : (s t : Status) → IsJudged source link t → UnreadCause (nothing called.random) source s → Sign (unread ends ranges text nothing) called source link t → OrNoMemory (number_of s) (number_of t)
  unread_one NoMemory t j c d = inr refl
  unread_one Unminted (BadLine line) j c d = absurd (unread_not_bad source line j.0 c.1 d)
  unread_one Unminted Unminted j c d = inl refl
  unread_one Unminted NoSeeds j c d = absurd d.1
  unread_one Unminted TooLong j c d = absurd (few_not_much source.before source.after j (unread_few source.before source.after c.1) d)
  unread_one Unminted t j c d = absurd d
  unread_one s t j c d = absurd c

  unread_needed : (s : Status) → ¬ nothing called.random → UnreadCause (nothing called.random) source s → number_of s ≡ 9
  unread_needed NoMemory n c = refl
  unread_needed Unminted n c = absurd (n c.0)
  unread_needed s n c = absurd c

  unread_end : (s : Status) → UnreadCause (nothing called.random) source s → MayEnd (unread ends ranges text nothing) (number_of s)
  unread_end NoMemory c = inr (inr (inl refl))
  unread_end Unminted c = inr (inr (inr (ended called.random c.0)))
  unread_end s c = absurd c

  unread_means : (s : Status) → UnreadCause (nothing called.random) source s → Means (unread ends ranges text nothing) called source link s
  unread_means NoMemory c = tt
  unread_means Unminted c = c.0
  unread_means s c = absurd c

pub unread_lawful : (ends : List ℕ) (ranges : Type 0) (text : List ℕ → List ℕ → Type 0) (nothing : List ℕ → Type 0)
    → ((random written : List ℕ) → text random written → nothing random → ⊥) → ((random : List ℕ) → nothing random → IsOneOf ends 10) → Lawful (unread ends ranges text nothing)
unread_lawful ends ranges text nothing apart ended = record {
  no_sign = λ called source link written t j x d. unread_sign ends ranges text nothing apart ended called source link written t j x d;
  one_sign = λ called source link s t j early c d. unread_one ends ranges text nothing apart ended called source link s t j c d;
  needed = λ called source link s n c. unread_needed ends ranges text nothing apart ended called source link s n c;
  may_end = λ called source link s c. unread_end ends ranges text nothing apart ended called source link s c;
  means = λ called source link s c. unread_means ends ranges text nothing apart ended called source link s c;
  seeks = λ none_ called source no_one. no_one;
  counts = λ none_ called source link last. last;
  restores = λ none_ source unsound. unsound;
  refuses = λ none_ refused. refused;
  vouches = λ none_ random unproved. unproved;
  no_link = λ random found links. true≢false (sym links);
}

-- a text that can always be made
pub made_lawful : (ranges : Type 0) (text : List ℕ → List ℕ → Type 0) → Lawful (unread [] ranges text (λ random. ⊥))
made_lawful ranges text = unread_lawful [] ranges text (λ random. ⊥) (λ random written t nothing. nothing) (λ random nothing. absurd nothing)
