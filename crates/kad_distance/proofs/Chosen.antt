-- What the k closest of a list are, and how they follow from those of other lists.
use Rattle.std.proofs.Common.{◌≡◌, ℕ, zero, suc, ◌+◌, ◌<◌, ◌≤◌, ◌↔◌, inl, inr, List, [], ◌∷◌, ◌++◌, length, take, get_or, refl, sym, ap, subst, ◌∙◌, arith}
use Rattle.std.specs.Prelude.{fold}
use Rattle.std.specs.List.{All, AllByRecursion, Contains}
use Rattle.std.specs.List.Sorted.{IsStrictlySortedBy}
use Rattle.std.specs.Cmp.{IsTotalOrder}
use Rattle.std.specs.declared.cmp.Ordering.{Ordering}
use Rattle.std.specs.declared.cmp.Ordering.TheVariants.{Less, Equal, Greater}
use Rattle.std.proofs.lemmas.List.{length-take, take_all, take_more}
use Rattle.std.proofs.lemmas.List.Elements.{All-filter, All-from_recursion, All-contains, All-contains_itself, Contains-append_cases, Contains-append_left, Contains-append_right}
use Rattle.std.proofs.lemmas.List.Sums.{fold-append}
use Rattle.std.proofs.lemmas.List.Kept.{IsStrictlySortedBy-filter}
use Rattle.kad_base.specs.declared.types.Id.{Id}
use Rattle.kad_base.specs.declared.types.Contact.{Contact}
use Rattle.kad_distance.specs.Order.{closeness, IsCloser, TiesAreEqual}
use Rattle.kad_distance.specs.KClosest.{by_ordering, put, each_once, least, k_closest}
use Rattle.kad_distance.proofs.Orders.{closeness_total, closeness_exact}
use Rattle.kad_distance.proofs.Least.{once_all, each_once_rises, least_take, take_twice, take_put}
use Rattle.kad_distance.proofs.Members.{first_in, later_in, in_cases, below_in, once_in, once_same, once_of_sorted}

pub least_all : {K : Type 0} (R : K → K → Ordering) (P : K → Type 0) (k : ℕ) (S : List K) → All P S → All P (least R k S)
unfolding least
least_all R P k S all = All-filter _ P (each_once R S) (once_all R P S all)

pub least_rises : {K : Type 0} {R : K → K → Ordering} → IsTotalOrder R → (k : ℕ) (S : List K) → IsStrictlySortedBy R (least R k S)
unfolding least
least_rises {K} {R} o k S = IsStrictlySortedBy-filter R _ (each_once R S) (each_once_rises o S)

pub least_few : {K : Type 0} {R : K → K → Ordering} → IsTotalOrder R → (k : ℕ) (S : List K) → length (least R k S) ≤ k
least_few {K} {R} o k S =
    let long = ap length (least_take o k S) ∙ length-take k (each_once R S) in
    omega (arith, long)

put_some : {K : Type 0} (R : K → K → Ordering) (ys : List K) (x : K) → 0 < length (put R ys x)
put_some R [] x = omega arith
put_some R (y ∷ ys) x =
    elim (R y x) as (λ r. 0 < length (by_ordering r (y ∷ put R ys x) (y ∷ ys) (x ∷ y ∷ ys))) [ Less ↦ omega arith | Equal ↦ omega arith | Greater ↦ omega arith ]

fold_some : {K : Type 0} (R : K → K → Ordering) (S ys : List K) → 0 < length ys → 0 < length (fold (put R) ys S)
fold_some R [] ys h = h
fold_some R (x ∷ S) ys h = fold_some R S (put R ys x) (put_some R ys x)

pub least_none : {K : Type 0} {R : K → K → Ordering} → IsTotalOrder R → (k : ℕ) (S : List K) → least R k S ≡ [] → 0 < k → S ≡ []
least_none o k [] e some = refl
least_none {K} {R} o k (x ∷ S) e some =
    let long = ap length (sym e ∙ least_take o k (x ∷ S)) ∙ length-take k (each_once R (x ∷ S)) in
    let more : 0 < length (each_once R (x ∷ S)) = fold_some R S (x ∷ []) (omega arith) in
    absurd (omega (arith, long, more))

-- of a list in strict order, its front
pub least_front : {K : Type 0} {R : K → K → Ordering} → IsTotalOrder R → TiesAreEqual R → (k : ℕ) (S : List K) → IsStrictlySortedBy R S → least R k S ≡ take k S
least_front o t k S h = least_take o k S ∙ ap (take k) (once_of_sorted o t S h)

pub least_same : {K : Type 0} {R : K → K → Ordering} → IsTotalOrder R → TiesAreEqual R → (k : ℕ) (S T : List K) → ((x : K) → Contains S x → Contains T x) → ((x : K) → Contains T x → Contains S x) → least R k S ≡ least R k T
least_same o t k S T f g = least_take o k S ∙ ap (take k) (once_same o t S T f g) ∙ sym (least_take o k T)

-- the first k of a list with more, from the first k of the list
fold_front : {K : Type 0} (R : K → K → Ordering) (k : ℕ) (S ys : List K) → take k (fold (put R) ys S) ≡ take k (fold (put R) (take k ys) S)
fold_front R k [] ys = sym (take_twice k ys)
fold_front {K} R k (x ∷ S) ys =
    fold_front R k S (put R ys x)
    ∙ ap (λ (l : List K). take k (fold (put R) l S)) (take_put R k ys x)
    ∙ sym (fold_front R k S (put R (take k ys) x))

-- of a joined list, from that of its front part
least_after : {K : Type 0} {R : K → K → Ordering} → IsTotalOrder R → TiesAreEqual R → (k : ℕ) (S T : List K) → least R k (S ++ T) ≡ least R k (least R k S ++ T)
least_after {K} {R} o t k S T =
    least_take o k (S ++ T)
    ∙ ap (take k) (fold-append (put R) [] S T)
    ∙ fold_front R k T (each_once R S)
    ∙ ap (λ (l : List K). take k (fold (put R) l T)) (sym (least_take o k S) ∙ sym (once_of_sorted o t (least R k S) (least_rises o k S)))
    ∙ ap (take k) (sym (fold-append (put R) [] (least R k S) T))
    ∙ sym (least_take o k (least R k S ++ T))

least_swap : {K : Type 0} {R : K → K → Ordering} → IsTotalOrder R → TiesAreEqual R → (k : ℕ) (S T : List K) → least R k (S ++ T) ≡ least R k (T ++ S)
least_swap {K} o t k S T = least_same o t k (S ++ T) (T ++ S) (swapped S T) (swapped T S)
  where
    swapped : (S T : List K) (x : K) → Contains (S ++ T) x → Contains (T ++ S) x
    swapped S T x in_ = elim (Contains-append_cases S T x in_) [ inl h ↦ Contains-append_right T S x h | inr h ↦ Contains-append_left T S x h ]

-- of a joined list, from those of its parts
pub least_joined : {K : Type 0} {R : K → K → Ordering} → IsTotalOrder R → TiesAreEqual R → (k : ℕ) (S T : List K) → least R k (S ++ T) ≡ least R k (least R k S ++ least R k T)
least_joined {K} {R} o t k S T =
    least_after o t k S T
    ∙ least_swap o t k (least R k S) T
    ∙ least_after o t k T (least R k S)
    ∙ least_swap o t k (least R k T) (least R k S)

-- of a list in strict order with one more, the first k after that is put in its place
least_put : {K : Type 0} {R : K → K → Ordering} → IsTotalOrder R → TiesAreEqual R → (k : ℕ) (S : List K) (x : K) → IsStrictlySortedBy R S → least R k (S ++ x ∷ []) ≡ take k (put R S x)
least_put {K} {R} o t k S x h =
    least_take o k (S ++ x ∷ [])
    ∙ ap (take k) (fold-append (put R) [] S (x ∷ []))
    ∙ ap (λ (l : List K). take k (put R l x)) (once_of_sorted o t S h)

-- one more that isn't among the first k changes none of them
put_beyond : {K : Type 0} (R : K → K → Ordering) (k : ℕ) (ys : List K) (x : K) → (Contains (take k (put R ys x)) x → ⊥) → take k (put R ys x) ≡ take k ys
put_beyond R zero ys x out = refl
put_beyond R (suc k) [] x out = absurd (out (first_in x (take k [])))
put_beyond {K} R (suc k) (y ∷ ys) x out =
    elim (R y x) as (λ r. (Contains (take (suc k) (by_ordering r (y ∷ put R ys x) (y ∷ ys) (x ∷ y ∷ ys))) x → ⊥) → take (suc k) (by_ordering r (y ∷ put R ys x) (y ∷ ys) (x ∷ y ∷ ys)) ≡ take (suc k) (y ∷ ys)) [
      | Less ↦ λ out. ap (λ (l : List K). y ∷ l) (put_beyond R k ys x (λ in_. out (later_in y (take k (put R ys x)) x in_)))
      | Equal ↦ λ out. refl
      | Greater ↦ λ out. absurd (out (first_in x (take k (y ∷ ys))))
    ] out

pub least_beyond : {K : Type 0} {R : K → K → Ordering} → IsTotalOrder R → (k : ℕ) (S : List K) (x : K) → (Contains (least R k (S ++ x ∷ [])) x → ⊥) → least R k (S ++ x ∷ []) ≡ least R k S
least_beyond {K} {R} o k S x out =
    let more : least R k (S ++ x ∷ []) ≡ take k (put R (each_once R S) x) = least_take o k (S ++ x ∷ []) ∙ ap (take k) (fold-append (put R) [] S (x ∷ [])) in
    more
    ∙ put_beyond R k (each_once R S) x (λ in_. out (subst (λ (l : List K). Contains l x) (sym more) in_))
    ∙ sym (least_take o k S)

-- in order, the first k are below each of the others
front_below : {K : Type 0} (R : K → K → Ordering) (k : ℕ) (ys : List K) (x : K) → IsStrictlySortedBy R ys → Contains ys x → (Contains (take k ys) x → ⊥) → AllByRecursion (λ y. R y x ≡ Less) (take k ys)
unfolding IsStrictlySortedBy
front_below R zero ys x h in_ out = tt
front_below R (suc k) [] x h in_ out = tt
front_below {K} R (suc k) (y ∷ ys) x h in_ out =
    elim (in_cases y ys x in_) [
      | inl e ↦ absurd (out (subst (λ (z : K). Contains (y ∷ take k ys) z) e (first_in y (take k ys))))
      | inr more ↦ (below_in R y ys x h.0 more, front_below R k ys x h.1 more (λ e. out (later_in y (take k ys) x e)))
    ]

-- those chosen are below the others
pub least_below : {K : Type 0} {R : K → K → Ordering} → IsTotalOrder R → TiesAreEqual R → (k : ℕ) (S : List K) (x : K) → Contains S x → (Contains (least R k S) x → ⊥) → All (λ y. R y x ≡ Less) (least R k S)
least_below {K} {R} o t k S x in_ out =
    let e = least_take o k S in
    All-from_recursion (λ y. R y x ≡ Less) (least R k S)
    (subst (λ (l : List K). AllByRecursion (λ y. R y x ≡ Less) l) (sym e)
    (front_below R k (each_once R S) x (each_once_rises o S) (once_in t S x in_) (λ h. out (subst (λ (l : List K). Contains l x) (sym e) h))))

-- in strict order
pub closest_rises : (target : Id) (k : ℕ) (S : List Contact) → IsStrictlySortedBy (closeness target) (k_closest target k S)
closest_rises target k S = least_rises (closeness_total target) k S

-- at most k
pub closest_few : (target : Id) (k : ℕ) (S : List Contact) → length (k_closest target k S) ≤ k
closest_few target k S = least_few (closeness_total target) k S

-- what holds of all of the list holds of them
pub closest_all : (target : Id) (k : ℕ) (S : List Contact) (P : Contact → Type 0) → All P S → All P (k_closest target k S)
closest_all target k S P all = least_all (closeness target) P k S all

-- each is in the list
pub closest_among : (target : Id) (k : ℕ) (S : List Contact) (c : Contact) → Contains (k_closest target k S) c → Contains S c
closest_among target k S c in_ = All-contains (Contains S) (k_closest target k S) c (closest_all target k S (Contains S) (All-contains_itself S)) in_

-- none only of the empty list
pub closest_none : (target : Id) (k : ℕ) (S : List Contact) → k_closest target k S ≡ [] → 0 < k → S ≡ []
closest_none target k S e some = least_none (closeness_total target) k S e some

-- of a list in strict order they are its first k
pub closest_front : (target : Id) (k : ℕ) (S : List Contact) → IsStrictlySortedBy (closeness target) S → k_closest target k S ≡ take k S
closest_front target k S h = least_front (closeness_total target) (closeness_exact target) k S h

-- of at most k in strict order they are all
pub closest_kept : (target : Id) (k : ℕ) (S : List Contact) → IsStrictlySortedBy (closeness target) S → length S ≤ k → k_closest target k S ≡ S
closest_kept target k S h few = closest_front target k S h ∙ take_all k S few

pub closest_nil : (target : Id) (k : ℕ) → k_closest target k [] ≡ []
unfolding least
closest_nil target k = refl

-- of a list in strict order with one more, the first k after that is put in its place
pub closest_put : (target : Id) (k : ℕ) (S : List Contact) (c : Contact) → IsStrictlySortedBy (closeness target) S → k_closest target k (S ++ c ∷ []) ≡ take k (put (closeness target) S c)
closest_put target k S c h = least_put (closeness_total target) (closeness_exact target) k S c h

-- of a list with more, from those of the list
pub closest_after : (target : Id) (k : ℕ) (S T : List Contact) → k_closest target k (S ++ T) ≡ k_closest target k (k_closest target k S ++ T)
closest_after target k S T = least_after (closeness_total target) (closeness_exact target) k S T

-- a step of a loop that puts in one after the other
pub closest_on : (target : Id) (k : ℕ) (S : List Contact) (i : ℕ) (d : Contact) (old new : List Contact) → i < length S → old ≡ k_closest target k (take i S) → new ≡ k_closest target k (old ++ get_or S i d ∷ []) → new ≡ k_closest target k (take (i + 1) S)
closest_on target k S i d old new lt was is =
    is
    ∙ ap (λ (l : List Contact). k_closest target k (l ++ get_or S i d ∷ [])) was
    ∙ sym (closest_after target k (take i S) (get_or S i d ∷ []))
    ∙ ap (k_closest target k) (sym (take_more S i d lt))

-- lists with the same members have the same, whatever their order and repeats
pub closest_same : (target : Id) (k : ℕ) (S T : List Contact) → ((c : Contact) → Contains S c ↔ Contains T c) → k_closest target k S ≡ k_closest target k T
closest_same target k S T f = least_same (closeness_total target) (closeness_exact target) k S T (λ c. (f c).0) (λ c. (f c).1)

-- of a joined list they are those of the k closest of each part
pub closest_joined : (target : Id) (k : ℕ) (S T : List Contact) → k_closest target k (S ++ T) ≡ k_closest target k (k_closest target k S ++ k_closest target k T)
closest_joined target k S T = least_joined (closeness_total target) (closeness_exact target) k S T

-- a contact that is added and isn't among them changes none of them
pub closest_beyond : (target : Id) (k : ℕ) (S : List Contact) (c : Contact) → (Contains (k_closest target k (S ++ c ∷ [])) c → ⊥) → k_closest target k (S ++ c ∷ []) ≡ k_closest target k S
closest_beyond target k S c out = least_beyond (closeness_total target) k S c out

-- they are closer than each other contact of the list
pub closest_below : (target : Id) (k : ℕ) (S : List Contact) (c : Contact) → Contains S c → (Contains (k_closest target k S) c → ⊥) → All (λ d. IsCloser target d c) (k_closest target k S)
closest_below target k S c in_ out = least_below (closeness_total target) (closeness_exact target) k S c in_ out
