-- The first that passes of the front of a sorted list, from all that pass.
use Rattle.std.proofs.Common.{◌≡◌, ℕ, zero, suc, ◌<◌, ◌≤◌, List, [], ◌∷◌, take, Bool, true, false, cond, Some, None, refl, sym, ap, subst, ◌∙◌, arith}
use Rattle.std.specs.Prelude.{filter, find, slice_get}
use Rattle.std.specs.List.{Contains}
use Rattle.std.specs.List.Sorted.{IsStrictlySortedBy}
use Rattle.std.specs.Cmp.{IsTotalOrder}
use Rattle.std.specs.declared.cmp.Ordering.{Ordering}
use Rattle.std.specs.declared.cmp.Ordering.TheVariants.{Less}
use Rattle.std.proofs.lemmas.Cmp.{tied_itself}
use Rattle.kad_distance.specs.KClosest.{by_ordering, place_in}
use Rattle.kad_distance.proofs.Members.{first_in, below_in}
use Rattle.claim_book.proofs.Lists.{filter_says}

pub none_passes : {K : Type 0} (T : K → Bool) (k : ℕ) (ys : List K) → filter T ys ≡ [] → find T (take k ys) ≡ None
none_passes T zero ys e = refl
none_passes T (suc k) [] e = refl
none_passes {K} T (suc k) (y ∷ ys) e =
    elim (T y) as (λ b. cond b (y ∷ filter T ys) (filter T ys) ≡ [] → cond b (Some y) (find T (take k ys)) ≡ None) [
      | true ↦ λ h. absurd cc
      | false ↦ λ h. none_passes T k ys h
    ] e

-- what the front says: the first that passes, if it stands before k
pub record Front {K : Type 0} (R : K → K → Ordering) (T : K → Bool) (k : ℕ) (ys : List K) (f : K) : Type 0 where
  pub here : place_in R ys f < k → find T (take k ys) ≡ Some f
  pub past : k ≤ place_in R ys f → find T (take k ys) ≡ None

pub front_passes : {K : Type 0} {R : K → K → Ordering} → IsTotalOrder R → (T : K → Bool) (k : ℕ) (ys : List K) (f : K) (rest : List K) → IsStrictlySortedBy R ys → filter T ys ≡ f ∷ rest → Front R T k ys f
unfolding IsStrictlySortedBy
front_passes o T k [] f rest h e = absurd cc
front_passes {K} {R} o T zero (y ∷ ys) f rest h e = record { here = λ lt. absurd (omega arith); past = λ le. refl }
front_passes {K} {R} o T (suc k) (y ∷ ys) f rest h e =
    elim (T y) as (λ b. T y ≡ b → cond b (y ∷ filter T ys) (filter T ys) ≡ f ∷ rest → Front R T (suc k) (y ∷ ys) f) [
      | true ↦ λ t g.
          let is : y ≡ f = cc in
          let at : place_in R (y ∷ ys) f ≡ 0 = ap (λ (z : K). by_ordering (R y z) (suc (place_in R ys z)) 0 0) (sym is) ∙ ap (λ r. by_ordering r (suc (place_in R ys y)) 0 0) (tied_itself o y) in
          record {
            here = λ lt. ap (λ b. cond b (Some y) (find T (take k ys))) t ∙ ap Some is;
            past = λ le. absurd (omega (arith, at, le));
          }
      | false ↦ λ t g.
          let in_ : Contains ys f = (filter_says T ys f (subst (λ (l : List K). Contains l f) (sym g) (first_in f rest))).0 in
          let below : R y f ≡ Less = below_in R y ys f h.0 in_ in
          let at : place_in R (y ∷ ys) f ≡ suc (place_in R ys f) = ap (λ r. by_ordering r (suc (place_in R ys f)) 0 0) below in
          let r = front_passes o T k ys f rest h.1 g in
          record {
            here = λ lt. ap (λ b. cond b (Some y) (find T (take k ys))) t ∙ r.here (omega (arith, at, lt));
            past = λ le. ap (λ b. cond b (Some y) (find T (take k ys))) t ∙ r.past (omega (arith, at, le));
          }
    ] refl e

pub none_first : {K : Type 0} (ys : List K) → slice_get ys 0 ≡ None → ys ≡ []
none_first [] e = refl
none_first (y ∷ ys) e = absurd cc

pub some_first : {K : Type 0} (ys : List K) (f : K) → slice_get ys 0 ≡ Some f → (rest : List K) × (ys ≡ f ∷ rest)
some_first [] f e = absurd cc
some_first (y ∷ ys) f e = (ys, (let is : y ≡ f = cc in ap (λ z. z ∷ ys) is))
