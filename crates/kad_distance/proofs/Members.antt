-- Lists in strict order are told apart by their members.
use Rattle.std.proofs.Common.{◌≡◌, zero, suc, ◌⊎◌, inl, inr, List, [], ◌∷◌, refl, sym, subst, ◌∙◌, arith}
use Rattle.std.specs.Prelude.{fold}
use Rattle.std.specs.List.{Contains}
use Rattle.std.specs.List.Sorted.{IsStrictlySortedBy}
use Rattle.std.specs.Cmp.{IsTotalOrder}
use Rattle.std.specs.declared.cmp.Ordering.{Ordering}
use Rattle.std.specs.declared.cmp.Ordering.TheVariants.{Less, Equal, Greater}
use Rattle.std.proofs.lemmas.Cmp.{tied_itself}
use Rattle.std.proofs.lemmas.List.Elements.{All-contains, All-contains_itself, All-from_recursion}
use Rattle.kad_distance.specs.Order.{TiesAreEqual}
use Rattle.kad_distance.specs.KClosest.{by_ordering, put, each_once}
use Rattle.kad_distance.proofs.Least.{Below, once_all, each_once_rises}

pub first_in : {K : Type 0} (y : K) (ys : List K) → Contains (y ∷ ys) y
first_in y ys = (0, omega arith, refl)

pub later_in : {K : Type 0} (y : K) (ys : List K) (x : K) → Contains ys x → Contains (y ∷ ys) x
later_in y ys x (n, lt, e) = (suc n, omega arith, e)

pub in_cases : {K : Type 0} (y : K) (ys : List K) (x : K) → Contains (y ∷ ys) x → (y ≡ x) ⊎ Contains ys x
in_cases y ys x (zero, lt, e) = inl e
in_cases y ys x (suc n, lt, e) = inr (n, omega arith, e)

pub below_in : {K : Type 0} (R : K → K → Ordering) (x : K) (ys : List K) (z : K) → Below R x ys → Contains ys z → R x z ≡ Less
below_in R x ys z h in_ = All-contains (λ y. R x y ≡ Less) ys z (All-from_recursion (λ y. R x y ≡ Less) ys h) in_

never_below : {K : Type 0} {R : K → K → Ordering} → IsTotalOrder R → (x : K) → R x x ≡ Less → ⊥
never_below o x e = let tie = tied_itself o x in cc

never_both : {K : Type 0} {R : K → K → Ordering} → IsTotalOrder R → (x y : K) → R x y ≡ Less → R y x ≡ Less → ⊥
never_both o x y e f = never_below o x (o.trans x y x e f)

-- the first of a list in strict order is the first of any other with its members
first_same : {K : Type 0} {R : K → K → Ordering} → IsTotalOrder R → (x y : K) (xs ys : List K) → Below R x xs → Below R y ys → (y ≡ x) ⊎ Contains ys x → (x ≡ y) ⊎ Contains xs y → x ≡ y
first_same o x y xs ys p q (inl e) h = sym e
first_same o x y xs ys p q (inr f) (inl e) = e
first_same {K} {R} o x y xs ys p q (inr f) (inr g) = absurd (never_both o x y (below_in R x xs y p g) (below_in R y ys x q f))

rest_in : {K : Type 0} {R : K → K → Ordering} → IsTotalOrder R → (x y : K) (xs ys : List K) → x ≡ y → Below R x xs → (z : K) → Contains xs z → (y ≡ z) ⊎ Contains ys z → Contains ys z
rest_in {K} {R} o x y xs ys e p z in_ (inl f) = absurd (never_below o x (subst (λ (w : K). R x w ≡ Less) (sym (e ∙ f)) (below_in R x xs z p in_)))
rest_in o x y xs ys e p z in_ (inr f) = f

pub same_members : {K : Type 0} {R : K → K → Ordering} → IsTotalOrder R → (xs ys : List K) → IsStrictlySortedBy R xs → IsStrictlySortedBy R ys → ((x : K) → Contains xs x → Contains ys x) → ((x : K) → Contains ys x → Contains xs x) → xs ≡ ys
unfolding IsStrictlySortedBy
same_members o [] [] p q f g = refl
same_members o [] (y ∷ ys) p q f g = let (n, lt, e) = g y (first_in y ys) in absurd (omega arith)
same_members o (x ∷ xs) [] p q f g = let (n, lt, e) = f x (first_in x xs) in absurd (omega arith)
same_members {K} {R} o (x ∷ xs) (y ∷ ys) p q f g =
    let e : x ≡ y = first_same o x y xs ys p.0 q.0 (in_cases y ys x (f x (first_in x xs))) (in_cases x xs y (g y (first_in y ys))) in
    let rest : xs ≡ ys = same_members o xs ys p.1 q.1
    (λ z h. rest_in o x y xs ys e p.0 z h (in_cases y ys z (f z (later_in x xs z h))))
    (λ z h. rest_in o y x ys xs (sym e) q.0 z h (in_cases x xs z (g z (later_in y ys z h)))) in
    cc

-- `put` keeps the members and adds one
put_adds : {K : Type 0} {R : K → K → Ordering} → TiesAreEqual R → (ys : List K) (x : K) → Contains (put R ys x) x
put_adds t [] x = first_in x []
put_adds {K} {R} t (y ∷ ys) x =
    elim (R y x) as (λ r. R y x ≡ r → Contains (by_ordering r (y ∷ put R ys x) (y ∷ ys) (x ∷ y ∷ ys)) x) [
      | Less ↦ λ e. later_in y (put R ys x) x (put_adds t ys x)
      | Equal ↦ λ e. subst (λ (w : K). Contains (y ∷ ys) w) (t y x e) (first_in y ys)
      | Greater ↦ λ e. first_in x (y ∷ ys)
    ] refl

put_keeps : {K : Type 0} (R : K → K → Ordering) (ys : List K) (x z : K) → Contains ys z → Contains (put R ys x) z
put_keeps R [] x z (n, lt, e) = absurd (omega arith)
put_keeps {K} R (y ∷ ys) x z in_ =
    elim (R y x) as (λ r. Contains (by_ordering r (y ∷ put R ys x) (y ∷ ys) (x ∷ y ∷ ys)) z) [
      | Less ↦ elim (in_cases y ys z in_) [ inl e ↦ subst (λ (w : K). Contains (y ∷ put R ys x) w) e (first_in y (put R ys x)) | inr h ↦ later_in y (put R ys x) z (put_keeps R ys x z h) ]
      | Equal ↦ in_
      | Greater ↦ later_in x (y ∷ ys) z in_
    ]

fold_keeps : {K : Type 0} (R : K → K → Ordering) (S ys : List K) (z : K) → Contains ys z → Contains (fold (put R) ys S) z
fold_keeps R [] ys z in_ = in_
fold_keeps R (x ∷ S) ys z in_ = fold_keeps R S (put R ys x) z (put_keeps R ys x z in_)

fold_adds : {K : Type 0} {R : K → K → Ordering} → TiesAreEqual R → (S ys : List K) (z : K) → Contains S z → Contains (fold (put R) ys S) z
fold_adds t [] ys z (n, lt, e) = absurd (omega arith)
fold_adds {K} {R} t (x ∷ S) ys z in_ =
    elim (in_cases x S z in_) [
      | inl e ↦ fold_keeps R S (put R ys x) z (subst (λ (w : K). Contains (put R ys x) w) e (put_adds t ys x))
      | inr h ↦ fold_adds t S (put R ys x) z h
    ]

pub once_in : {K : Type 0} {R : K → K → Ordering} → TiesAreEqual R → (S : List K) (z : K) → Contains S z → Contains (each_once R S) z
once_in t S z in_ = fold_adds t S [] z in_

pub once_from : {K : Type 0} (R : K → K → Ordering) (S : List K) (z : K) → Contains (each_once R S) z → Contains S z
once_from R S z in_ = All-contains (Contains S) (each_once R S) z (once_all R (Contains S) S (All-contains_itself S)) in_

-- lists with the same members have the same different members in order
pub once_same : {K : Type 0} {R : K → K → Ordering} → IsTotalOrder R → TiesAreEqual R → (S T : List K) → ((x : K) → Contains S x → Contains T x) → ((x : K) → Contains T x → Contains S x) → each_once R S ≡ each_once R T
once_same {K} {R} o t S T f g =
    same_members o (each_once R S) (each_once R T) (each_once_rises o S) (each_once_rises o T)
    (λ x in_. once_in t T x (f x (once_from R S x in_)))
    (λ x in_. once_in t S x (g x (once_from R T x in_)))

-- a list in strict order has each of its members once
pub once_of_sorted : {K : Type 0} {R : K → K → Ordering} → IsTotalOrder R → TiesAreEqual R → (S : List K) → IsStrictlySortedBy R S → each_once R S ≡ S
once_of_sorted {K} {R} o t S h = same_members o (each_once R S) S (each_once_rises o S) h (once_from R S) (once_in t S)
