-- How many of the first paths have something to settle: none, one, or more.
use Rattle.std.proofs.Common.{◌≡◌, ◌≢◌, ◌<◌, ◌+◌, ℕ, List, [], Bool, true, false, inl, inr, ap, ◌∙◌, arith}
use Rattle.std.proofs.lemmas.Bool.{cases_lt}
use Rattle.claim_book.specs.declared.types.Entry.{Entry}
use Rattle.claim_book.specs.Journal.{unsettled}
use Rattle.lookup_run.specs.Rounds.{AllSettled, HasSeveral}

-- one of the first n paths has something, and no other
pub record HasOne (n : ℕ) (J : List Entry) : Type 0 where
  pub one : ℕ
  pub within : one < n
  pub of_one : unsettled one J ≢ []
  pub of_others : (q : ℕ) → q < n → q ≢ one → unsettled q J ≡ []

-- none has something, or one has
abbrev pub AtMostOne : Bool → ℕ → List Entry → Type 0
AtMostOne false n J = AllSettled n J
AtMostOne true n J = HasOne n J

pub none_yet : (J : List Entry) → AtMostOne false 0 J
none_yet J q lt = absurd (omega (arith, lt))

-- one path more that has nothing
pub idle_more : (some : Bool) (n : ℕ) (J : List Entry) → AtMostOne some n J → unsettled n J ≡ [] → AtMostOne some (n + 1) J
idle_more false n J h here = λ q lt. elim (cases_lt q n) [
  | inl less ↦ h q less
  | inr not_less ↦ (let is : q ≡ n = omega (arith, lt, not_less) in ap (λ m. unsettled m J) is ∙ here)
]
idle_more true n J h here = record {
  one = h.one;
  within = (let w = h.within in omega (arith, w));
  of_one = h.of_one;
  of_others = λ q lt other. elim (cases_lt q n) [
    | inl less ↦ h.of_others q less other
    | inr not_less ↦ (let is : q ≡ n = omega (arith, lt, not_less) in ap (λ m. unsettled m J) is ∙ here)
  ];
}

-- the first that has something
pub busy_first : (n : ℕ) (J : List Entry) → AtMostOne false n J → unsettled n J ≢ [] → AtMostOne true (n + 1) J
busy_first n J h here = record {
  one = n;
  within = omega arith;
  of_one = here;
  of_others = λ q lt other. elim (cases_lt q n) [
    | inl less ↦ h q less
    | inr not_less ↦ absurd (other (omega (arith, lt, not_less)))
  ];
}

-- the second
pub busy_second : (n m : ℕ) (J : List Entry) → AtMostOne true n J → unsettled n J ≢ [] → n < m → HasSeveral m J
busy_second n m J h here lt = record { one = h.one; other = n; apart = h.within; within = lt; of_one = h.of_one; of_other = here }

-- at most one is not more than one
pub not_several : (some : Bool) (n : ℕ) (J : List Entry) → AtMostOne some n J → ¬ HasSeveral n J
not_several false n J h s = s.of_other (h s.other s.within)
not_several true n J h s = elim (cases_lt s.one h.one) [
  | inl less ↦ (let a = s.apart in let w = s.within in s.of_one (h.of_others s.one (omega (arith, a, w)) (λ e. absurd (omega (arith, less, e)))))
  | inr not_less ↦ (let a = s.apart in s.of_other (h.of_others s.other s.within (λ e. absurd (omega (arith, a, not_less, e)))))
]
