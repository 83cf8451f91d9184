-- Sorted lists and lists without some of their members.
use Rattle.std.proofs.Common.{◌≡◌, ◌+◌, ◌≤◌, List, [], ◌∷◌, ◌++◌, length, Bool, true, false, not, cond, inl, inr, refl, ap, subst, ◌∙◌, arith}
use Rattle.std.specs.Prelude.{filter, fold}
use Rattle.std.specs.List.{Contains}
use Rattle.std.specs.Cmp.{IsTotalOrder}
use Rattle.std.specs.declared.cmp.Ordering.{Ordering}
use Rattle.std.specs.declared.cmp.Ordering.TheVariants.{Less, Equal, Greater}
use Rattle.std.proofs.lemmas.List.Sums.{fold-append}
use Rattle.std.proofs.lemmas.List.Elements.{All-contains, All-filter, All-contains_itself, filter_passes}
use Rattle.std.proofs.lemmas.List.Kept.{IsStrictlySortedBy-filter}
use Rattle.kad_base.specs.declared.types.Id.{Id}
use Rattle.kad_base.specs.declared.types.Contact.{Contact}
use Rattle.kad_base.specs.Contacts.{among, without}
use Rattle.kad_distance.specs.Order.{closeness, TiesAreEqual}
use Rattle.kad_distance.specs.KClosest.{by_ordering, put, each_once}
use Rattle.kad_distance.proofs.Orders.{closeness_total, closeness_exact}
use Rattle.kad_distance.proofs.Least.{each_once_rises}
use Rattle.kad_distance.proofs.Members.{first_in, later_in, in_cases, once_in, once_from, same_members}

pub few_kept : {A : Type 0} (T : A → Bool) (xs : List A) → length (filter T xs) ≤ length xs
few_kept T [] = omega arith
few_kept T (x ∷ xs) = elim (T x) as (λ b. length (cond b (x ∷ filter T xs) (filter T xs)) ≤ length (x ∷ xs)) [ true ↦ (let h = few_kept T xs in omega arith) | false ↦ (let h = few_kept T xs in omega arith) ]

pub put_few : (R : Contact → Contact → Ordering) (ys : List Contact) (x : Contact) → length (put R ys x) ≤ length ys + 1
put_few R [] x = omega arith
put_few R (y ∷ ys) x =
    elim (R y x) as (λ r. length (by_ordering r (y ∷ put R ys x) (y ∷ ys) (x ∷ y ∷ ys)) ≤ length (y ∷ ys) + 1) [
      | Less ↦ (let h = put_few R ys x in omega arith)
      | Equal ↦ omega arith
      | Greater ↦ omega arith
    ]

pub once_more : (target : Id) (S : List Contact) (c : Contact) → each_once (closeness target) (S ++ c ∷ []) ≡ put (closeness target) (each_once (closeness target) S) c
once_more target S c = fold-append (put (closeness target)) [] S (c ∷ [])

fold_few : (R : Contact → Contact → Ordering) (S ys : List Contact) → length (fold (put R) ys S) ≤ length ys + length S
fold_few R [] ys = omega arith
fold_few R (x ∷ S) ys = (let rest = fold_few R S (put R ys x) in let one = put_few R ys x in omega arith)

-- a list has no more once each stands once
pub once_few : (R : Contact → Contact → Ordering) (S : List Contact) → length (each_once R S) ≤ length S
once_few R S = (let h = fold_few R S [] in omega arith)

pub filter_says : {K : Type 0} (T : K → Bool) (S : List K) (x : K) → Contains (filter T S) x → Contains S x × (T x ≡ true)
filter_says T S x h = (All-contains (Contains S) (filter T S) x (All-filter T (Contains S) S (All-contains_itself S)) h, All-contains (λ y. T y ≡ true) (filter T S) x (filter_passes T S) h)

filter_in : {K : Type 0} (T : K → Bool) (S : List K) (x : K) → T x ≡ true → Contains S x → Contains (filter T S) x
filter_in T [] x e (n, lt, f) = absurd (omega arith)
filter_in {K} T (y ∷ S) x e h =
    elim (T y) as (λ b. T y ≡ b → Contains (cond b (y ∷ filter T S) (filter T S)) x) [
      | true ↦ λ t. elim (in_cases y S x h) [ inl is ↦ subst (λ (z : K). Contains (y ∷ filter T S) z) is (first_in y (filter T S)) | inr more ↦ later_in y (filter T S) x (filter_in T S x e more) ]
      | false ↦ λ f. elim (in_cases y S x h) [ inl is ↦ absurd (let g : T y ≡ true = ap T is ∙ e in cc) | inr more ↦ filter_in T S x e more ]
    ] refl

once_passing : {K : Type 0} {R : K → K → Ordering} → IsTotalOrder R → TiesAreEqual R → (T : K → Bool) (S : List K) → each_once R (filter T S) ≡ filter T (each_once R S)
once_passing {K} {R} o t T S =
    same_members o (each_once R (filter T S)) (filter T (each_once R S)) (each_once_rises o (filter T S)) (IsStrictlySortedBy-filter R T (each_once R S) (each_once_rises o S))
    (λ x h. let p = filter_says T S x (once_from R (filter T S) x h) in filter_in T (each_once R S) x p.1 (once_in t S x p.0))
    (λ x h. let p = filter_says T (each_once R S) x h in once_in t (filter T S) x (filter_in T S x p.1 (once_from R S x p.0)))

-- those that pass, each once and in order, are those of the list in order that pass
pub once_filter : (target : Id) (T : Contact → Bool) (S : List Contact) → each_once (closeness target) (filter T S) ≡ filter T (each_once (closeness target) S)
once_filter target T S = once_passing (closeness_total target) (closeness_exact target) T S

pub once_without : (target : Id) (S : List Contact) (c : Contact) → each_once (closeness target) (without S (c ∷ [])) ≡ without (each_once (closeness target) S) (c ∷ [])
once_without target S c = once_filter target (λ d. not (among (c ∷ []) d)) S
