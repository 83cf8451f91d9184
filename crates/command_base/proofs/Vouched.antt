-- What a command does behind a proof of its own identifier and an input keeps the laws of every promise, where what it does behind its input does.
use Rattle.std.proofs.Common.{◌≡◌, ℕ, List, IsTrue, inl, inr, refl}
use Rattle.kad_base.specs.declared.types.Event.{Event}
use Rattle.command_base.specs.declared.status.Status.{Status}
use Rattle.command_base.specs.declared.status.Status.TheVariants.{BadLine, Strays, NoSeeds, NoMemory, TooLong, Unsound, BadProof}
use Rattle.command_base.specs.Called.{Called}
use Rattle.command_base.specs.Endings.{number_of, MayEnd, OrNoMemory}
use Rattle.command_base.specs.Input.{IsBadLine}
use Rattle.command_base.specs.Promise.{Aim, ReadingCause, ProofCause, reading, vouched}
use Rattle.command_base.specs.Shown.{Shown, IsTold}
use Rattle.command_base.proofs.Exactly.{few_not_much, unread_few}
use Rattle.command_base.proofs.Lawful.{Sign, IsJudged, Means, IsUncalled, Lawful}

module _ (good : List ℕ → Type 0) (aim : Aim) (law : Lawful (reading aim)) (over : IsTrue aim.links)
    (unbad : (source : Shown ℕ) (number : ℕ) → IsTold source → source.after ≡ source.before → ¬ IsBadLine aim.bad source number)
    (uncalled : (called : Called) (link : Shown Event) → IsTold link → link.after ≡ link.before → ¬ aim.last_stray called link) (sound : (source : Shown ℕ) → ¬ aim.unsound source) where
  module _ (called : Called) (source : Shown ℕ) (link : Shown Event) where
    abbrev Cause : Status → Type 0
    Cause s = ProofCause (good called.random) (λ t. ReadingCause aim.bad (aim.cause called source link) source t) source s

    no_sign : (text : List ℕ) (t : Status) → IsJudged source link t → good called.random × aim.text called source link text → Sign (vouched good aim) called source link t → ⊥
    no_sign text BadProof j x d = d x.0
    no_sign text NoSeeds j x d = law.no_sign called source link text NoSeeds j x.1 (d.0, d.1.1)
    no_sign text t j x d = law.no_sign called source link text t j x.1 d

    -- a sign that goes with what is done behind the value, and not with nothing read and nothing sent
    through : (s t : Status) → IsJudged source link t → IsUncalled link s → Cause s → Sign (reading aim) called source link t → ((¬ good called.random) → source.after ≡ source.before → link.after ≡ link.before → ⊥)
        → OrNoMemory (number_of s) (number_of t)
    through BadProof t j early c d none_ = absurd (none_ c.0 c.1 (early (inr (inr (inr (inr (inr (inr (inr (inr refl))))))))))
    through NoMemory t j early c d none_ = inr refl
    through s t j early c d none_ = law.one_sign called source link s t j early c.1 d

    with_proof : (s : Status) → Cause s → ¬ good called.random → OrNoMemory (number_of s) 15
    with_proof BadProof c d = inl refl
    with_proof NoMemory c d = inr refl
    with_proof s c d = absurd (d c.0)

    one_sign : (s t : Status) → IsJudged source link t → IsUncalled link s → Cause s → Sign (vouched good aim) called source link t → OrNoMemory (number_of s) (number_of t)
    one_sign s (BadLine line) j early c d = through s (BadLine line) j early c d (λ bad same quiet. unbad source line j.0 same d)
    one_sign s NoSeeds j early c d = through s NoSeeds j early c (d.0, d.1.1) (λ bad same quiet. bad d.1.0)
    one_sign s Strays j early c d = through s Strays j early c d (λ bad same quiet. uncalled called link j quiet d)
    one_sign s TooLong j early c d = through s TooLong j early c d (λ bad same quiet. few_not_much source.before source.after j (unread_few source.before source.after same) d)
    one_sign s Unsound j early c d = absurd (sound source d)
    one_sign s BadProof j early c d = with_proof s c d
    one_sign s t j early c d = absurd d

    needed : (s : Status) → good called.random × aim.needs called source link → Cause s → number_of s ≡ 9
    needed BadProof n c = absurd (c.0 n.0)
    needed NoMemory n c = refl
    needed s n c = law.needed called source link s n.1 c.1

    ends_more : (n : ℕ) → MayEnd (reading aim) n → MayEnd (vouched good aim) n
    ends_more n h = elim h [
      | inl a ↦ inl a
      | inr b ↦ elim b [
        | inl a ↦ inr (inl a)
        | inr d ↦ elim d [ inl a ↦ inr (inr (inl a)) | inr e ↦ inr (inr (inr (inr e))) ]
      ]
    ]

    may_end : (s : Status) → Cause s → MayEnd (vouched good aim) (number_of s)
    may_end BadProof c = inr (inr (inr (inl refl)))
    may_end NoMemory c = inr (inr (inl refl))
    may_end s c = ends_more (number_of s) (law.may_end called source link s c.1)

    means : (s : Status) → Cause s → Means (vouched good aim) called source link s
    means BadProof c = c.0
    means NoMemory c = tt
    means NoSeeds c = let m = law.means called source link NoSeeds c.1 in (m.0, (c.0, m.1))
    means s c = law.means called source link s c.1

  pub vouched_lawful : Lawful (vouched good aim)
  vouched_lawful = record {
    no_sign = λ called source link text t j x d. no_sign called source link text t j x d;
    one_sign = λ called source link s t j early c d. one_sign called source link s t j early c d;
    needed = λ called source link s n c. needed called source link s n c;
    may_end = λ called source link s c. may_end called source link s c;
    means = λ called source link s c. means called source link s c;
    seeks = λ none_. absurd (none_ over);
    counts = λ none_. absurd (none_ over);
    restores = λ none_. absurd (none_ over);
    refuses = λ none_. absurd (none_ over);
    vouches = λ none_. absurd (none_ over);
    no_link = λ random nothing links. nothing;
  }
