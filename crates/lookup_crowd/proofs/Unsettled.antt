-- How many of the first lookups have something to settle: none, one, or more.
use Rattle.std.proofs.Common.{◌≡◌, ◌≢◌, ◌<◌, ◌≤◌, ◌+◌, ℕ, List, length, get_or, set, Bool, true, false, inl, inr, ap, subst, ◌∙◌, arith}
use Rattle.std.proofs.lemmas.Bool.{cases_lt}
use Rattle.std.proofs.lemmas.List.{get_or_default, set-get_or}
use Rattle.kad_base.specs.Limits.{max_paths}
use Rattle.claim_book.specs.declared.types.Entry.{Entry}
use Rattle.claim_book.specs.Journal.{AllSettled}
use Rattle.lookup_crowd.specs.declared.seeker.Seeker.{Seeker}
use Rattle.lookup_crowd.specs.inner.SettleSteps.{HasSome, SeveralHaveSome}

pub none_here : (n : ℕ) (J : List Entry) → max_paths ≤ n → AllSettled n J → ¬ HasSome J
none_here n J le none h = h.left (none h.path (let w = h.within in omega (arith, w, le)))

-- ---- lookups

abbrev HasAt : List Seeker → ℕ → Type 0
HasAt ks i = (d : Seeker) → HasSome (get_or ks i d).lookup.book.journal

-- one of the first n has something, and no other
pub record HasOne (n : ℕ) (ks : List Seeker) : Type 0 where
  pub one : ℕ
  pub within : one < n
  pub of_one : HasAt ks one
  pub of_others : (i : ℕ) → i < n → i ≢ one → ¬ HasAt ks i

-- none has something, or one has
abbrev pub AtMostOne : Bool → ℕ → List Seeker → Type 0
AtMostOne false n ks = (i : ℕ) → i < n → ¬ HasAt ks i
AtMostOne true n ks = HasOne n ks

has_at : (ks : List Seeker) (i : ℕ) (d : Seeker) → i < length ks → HasSome (get_or ks i d).lookup.book.journal → HasAt ks i
has_at ks i d lt h e = subst (λ (k : Seeker). HasSome k.lookup.book.journal) (get_or_default ks i d e lt) h

pub none_yet : (ks : List Seeker) → AtMostOne false 0 ks
none_yet ks i lt = absurd (omega (arith, lt))

idle_more : (some : Bool) (n : ℕ) (ks : List Seeker) (d : Seeker) → AtMostOne some n ks → ¬ HasSome (get_or ks n d).lookup.book.journal → AtMostOne some (n + 1) ks
idle_more false n ks d h here = λ i lt has. elim (cases_lt i n) [
  | inl less ↦ h i less has
  | inr not_less ↦ (let is : i ≡ n = omega (arith, lt, not_less) in here (subst (λ m. HasSome (get_or ks m d).lookup.book.journal) is (has d)))
]
idle_more true n ks d h here = record {
  one = h.one;
  within = (let w = h.within in omega (arith, w));
  of_one = h.of_one;
  of_others = λ i lt other has. elim (cases_lt i n) [
    | inl less ↦ h.of_others i less other has
    | inr not_less ↦ (let is : i ≡ n = omega (arith, lt, not_less) in here (subst (λ m. HasSome (get_or ks m d).lookup.book.journal) is (has d)))
  ];
}

busy_first : (n : ℕ) (ks : List Seeker) (d : Seeker) → n < length ks → AtMostOne false n ks → HasSome (get_or ks n d).lookup.book.journal → AtMostOne true (n + 1) ks
busy_first n ks d lt h here = record {
  one = n;
  within = omega arith;
  of_one = has_at ks n d lt here;
  of_others = λ i less other has. elim (cases_lt i n) [
    | inl before ↦ h i before has
    | inr not_less ↦ other (omega (arith, less, not_less))
  ];
}

busy_second : (n : ℕ) (ks : List Seeker) (d : Seeker) → n < length ks → AtMostOne true n ks → HasSome (get_or ks n d).lookup.book.journal → SeveralHaveSome ks
busy_second n ks d lt h here = record { one = h.one; other = n; apart = h.within; within = lt; of_one = h.of_one; of_other = has_at ks n d lt here }

-- nothing changed
pub still_same : (old now : List Seeker) (n : ℕ) (d after : Seeker) → now ≡ old → after ≡ get_or now n d → set now n after ≡ old
still_same old now n d after same is = ap (λ k. set now n k) is ∙ set-get_or now n d ∙ same

-- one more that has nothing
pub idle_next : (some : Bool) (n : ℕ) (old now : List Seeker) (d : Seeker) → now ≡ old → AtMostOne some n old → ¬ HasSome (get_or now n d).lookup.book.journal → AtMostOne some (n + 1) old
idle_next some n old now d same h here = idle_more some n old d h (subst (λ l. ¬ HasSome (get_or l n d).lookup.book.journal) same here)

-- the first that has something
pub busy_next : (n : ℕ) (old now : List Seeker) (d : Seeker) → now ≡ old → n < length old → AtMostOne false n old → HasSome (get_or now n d).lookup.book.journal → AtMostOne true (n + 1) old
busy_next n old now d same lt h here = busy_first n old d lt h (subst (λ l. HasSome (get_or l n d).lookup.book.journal) same here)

-- at most one is not more than one
pub not_several : (some : Bool) (n : ℕ) (ks : List Seeker) → length ks ≤ n → AtMostOne some n ks → ¬ SeveralHaveSome ks
not_several false n ks le h s = h s.other (let w = s.within in omega (arith, w, le)) s.of_other
not_several true n ks le h s = elim (cases_lt s.one h.one) [
  | inl less ↦ (let a = s.apart in let w = s.within in h.of_others s.one (omega (arith, a, w, le)) (λ e. absurd (omega (arith, less, e))) s.of_one)
  | inr not_less ↦ (let a = s.apart in let w = s.within in h.of_others s.other (omega (arith, w, le)) (λ e. absurd (omega (arith, a, not_less, e))) s.of_other)
]
