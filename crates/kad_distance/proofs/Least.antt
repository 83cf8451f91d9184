-- The k least of a list: the first k of its different members in order; and the place of one more among them.
use Rattle.std.proofs.Common.{◌≡◌, ℕ, zero, suc, ◌+◌, ◌-◌, ◌<◌, ◌≤◌, List, [], ◌∷◌, ◌++◌, length, take, drop, get_or, Bool, true, false, not, cond, refl, sym, ap, ◌∙◌, arith, add-zero, zero-add}
use Rattle.std.specs.Prelude.{filter, fold, nat_lt, insert}
use Rattle.std.specs.List.{All, AllByRecursion}
use Rattle.std.specs.List.Sorted.{IsStrictlySortedBy, IsPartitionedBy}
use Rattle.std.specs.Ordering.{is_lt, is_eq, ordering_reverse}
use Rattle.std.specs.Cmp.{IsTotalOrder}
use Rattle.std.specs.declared.cmp.Ordering.{Ordering}
use Rattle.std.specs.declared.cmp.Ordering.TheVariants.{Less, Equal, Greater}
use Rattle.std.proofs.lemmas.Cmp.{tied_itself}
use Rattle.std.proofs.lemmas.List.Elements.{All-from_recursion, recursion_from_All, All-get_or}
use Rattle.std.proofs.Math.Seq.{take-nil, take-length, take-append_seam}
use Rattle.std.proofs.lemmas.Bool.Decides.{nat_tests}
use Rattle.kad_distance.specs.KClosest.{by_ordering, put, each_once, least, place_in, new_at}

abbrev pub Below : {K : Type 0} → (K → K → Ordering) → K → List K → Type 0
Below R x ys = AllByRecursion (λ y. R x y ≡ Less) ys

all_put : {K : Type 0} (R : K → K → Ordering) (P : K → Type 0) (ys : List K) (x : K) → P x → AllByRecursion P ys → AllByRecursion P (put R ys x)
all_put R P [] x px h = (px, tt)
all_put R P (y ∷ ys) x px h =
    elim (R y x) as (λ r. AllByRecursion P (by_ordering r (y ∷ put R ys x) (y ∷ ys) (x ∷ y ∷ ys))) [
      | Less ↦ (h.0, all_put R P ys x px h.1)
      | Equal ↦ h
      | Greater ↦ (px, h)
    ]

fold_all : {K : Type 0} (R : K → K → Ordering) (P : K → Type 0) (S ys : List K) → AllByRecursion P ys → AllByRecursion P S → AllByRecursion P (fold (put R) ys S)
fold_all R P [] ys h all = h
fold_all R P (x ∷ S) ys h all = fold_all R P S (put R ys x) (all_put R P ys x all.0 h) all.1

pub once_all : {K : Type 0} (R : K → K → Ordering) (P : K → Type 0) (S : List K) → All P S → All P (each_once R S)
once_all R P S all = All-from_recursion P (each_once R S) (fold_all R P S [] tt (recursion_from_All P S all))

all_beyond : {K : Type 0} {R : K → K → Ordering} → IsTotalOrder R → (x y : K) (ys : List K) → R x y ≡ Less → Below R y ys → Below R x ys
all_beyond o x y [] e h = tt
all_beyond o x y (z ∷ ys) e h = (o.trans x y z e h.0, all_beyond o x y ys e h.1)

all_tied : {K : Type 0} {R : K → K → Ordering} → IsTotalOrder R → (y x : K) (ys : List K) → R y x ≡ Equal → Below R y ys → Below R x ys
all_tied o y x [] e h = tt
all_tied o y x (z ∷ ys) e h = (sym (o.congr y x z e) ∙ h.0, all_tied o y x ys e h.1)

lt_is : (r : Ordering) → is_lt r ≡ true → r ≡ Less
lt_is Less e = refl
lt_is Equal e = absurd cc
lt_is Greater e = absurd cc

put_rises : {K : Type 0} {R : K → K → Ordering} → IsTotalOrder R → (ys : List K) (x : K) → IsStrictlySortedBy R ys → IsStrictlySortedBy R (put R ys x)
unfolding IsStrictlySortedBy
put_rises o [] x h = (tt, tt)
put_rises {K} {R} o (y ∷ ys) x h =
    elim (R y x) as (λ r. R y x ≡ r → IsStrictlySortedBy R (by_ordering r (y ∷ put R ys x) (y ∷ ys) (x ∷ y ∷ ys))) [
      | Less ↦ λ e. (all_put R (λ z. R y z ≡ Less) ys x e h.0, put_rises o ys x h.1)
      | Equal ↦ λ e. h
      | Greater ↦ λ e. let back : R x y ≡ Less = o.antisymm x y ∙ ap ordering_reverse e in ((back, all_beyond o x y ys back h.0), h)
    ] refl

fold_rises : {K : Type 0} {R : K → K → Ordering} → IsTotalOrder R → (S ys : List K) → IsStrictlySortedBy R ys → IsStrictlySortedBy R (fold (put R) ys S)
fold_rises o [] ys h = h
fold_rises {K} {R} o (x ∷ S) ys h = fold_rises o S (put R ys x) (put_rises o ys x h)

pub each_once_rises : {K : Type 0} {R : K → K → Ordering} → IsTotalOrder R → (S : List K) → IsStrictlySortedBy R (each_once R S)
unfolding IsStrictlySortedBy
each_once_rises o S = fold_rises o S [] tt

none_below : {K : Type 0} {R : K → K → Ordering} → IsTotalOrder R → (x : K) (ys : List K) → Below R x ys → filter (λ y. is_lt (R y x)) ys ≡ []
none_below o x [] h = refl
none_below {K} {R} o x (y ∷ ys) h =
    let back : R y x ≡ Greater = o.antisymm y x ∙ ap ordering_reverse h.0 in
    ap (λ r. cond (is_lt r) (y ∷ filter (λ z. is_lt (R z x)) ys) (filter (λ z. is_lt (R z x)) ys)) back ∙ none_below o x ys h.1

filter_under : {K : Type 0} (R : K → K → Ordering) (y : K) (n k : ℕ) (below : K → List K) (xs : List K) → Below R y xs → filter (λ x. nat_lt (n + length (cond (is_lt (R y x)) (y ∷ below x) (below x))) k) xs ≡ filter (λ x. nat_lt (suc n + length (below x)) k) xs
filter_under R y n k below [] h = refl
filter_under {K} R y n k below (x ∷ xs) h =
    let more : n + suc (length (below x)) ≡ suc n + length (below x) = omega arith in
    let rest = filter (λ x. nat_lt (n + length (cond (is_lt (R y x)) (y ∷ below x) (below x))) k) xs in
    ap (λ r. cond (nat_lt (n + length (cond (is_lt r) (y ∷ below x) (below x))) k) (x ∷ rest) rest) h.0
    ∙ ap (λ m. cond (nat_lt m k) (x ∷ rest) rest) more
    ∙ ap (λ l. cond (nat_lt (suc n + length (below x)) k) (x ∷ l) l) (filter_under R y n k below xs h.1)

cut : {K : Type 0} (b : Bool) (n k : ℕ) (y : K) (ys : List K) → nat_lt n k ≡ b → cond b (y ∷ take (k - suc n) ys) (take (k - suc n) ys) ≡ take (k - n) (y ∷ ys)
cut {K} true n k y ys e =
    let one : k - n ≡ suc (k - suc n) = (let lt : n < k = grind (arith, nat_tests) in omega arith) in
    ap (λ m. take m (y ∷ ys)) (sym one)
cut {K} false n k y ys e =
    let le : k ≤ n = grind (arith, nat_tests) in
    let none : k - suc n ≡ 0 = omega arith in
    let none_too : k - n ≡ 0 = omega arith in
    ap (λ m. take m ys) none ∙ ap (λ m. take m (y ∷ ys)) (sym none_too)

-- in order, those with fewer than k below are the first k
filter_front : {K : Type 0} {R : K → K → Ordering} → IsTotalOrder R → (n k : ℕ) (ys : List K) → IsStrictlySortedBy R ys → filter (λ x. nat_lt (n + length (filter (λ y. is_lt (R y x)) ys)) k) ys ≡ take (k - n) ys
unfolding IsStrictlySortedBy
filter_front {K} o n k [] h = sym (take-nil (k - n))
filter_front {K} {R} o n k (y ∷ ys) h =
    let below = λ (x : K). filter (λ z. is_lt (R z x)) ys in
    let rest = filter (λ x. nat_lt (n + length (cond (is_lt (R y x)) (y ∷ below x) (below x))) k) ys in
    let first : length (cond (is_lt (R y y)) (y ∷ below y) (below y)) ≡ 0 =
    ap (λ r. length (cond (is_lt r) (y ∷ below y) (below y))) (tied_itself o y) ∙ ap length (none_below o y ys h.0) in
    ap (λ m. cond (nat_lt (n + m) k) (y ∷ rest) rest) first
    ∙ ap (λ m. cond (nat_lt m k) (y ∷ rest) rest) (add-zero n)
    ∙ ap (λ l. cond (nat_lt n k) (y ∷ l) l) (filter_under R y n k below ys h.0 ∙ filter_front o (suc n) k ys h.1)
    ∙ cut (nat_lt n k) n k y ys refl

pub least_take : {K : Type 0} {R : K → K → Ordering} → IsTotalOrder R → (k : ℕ) (S : List K) → least R k S ≡ take k (each_once R S)
unfolding least
least_take {K} {R} o k S =
    filter_zero k (λ x. length (filter (λ y. is_lt (R y x)) (each_once R S))) (each_once R S)
    ∙ filter_front o 0 k (each_once R S) (each_once_rises o S)
    ∙ (let whole : k - 0 ≡ k = omega arith in ap (λ m. take m (each_once R S)) whole)
  where
    filter_zero : (k : ℕ) (count : K → ℕ) (xs : List K) → filter (λ x. nat_lt (count x) k) xs ≡ filter (λ x. nat_lt (0 + count x) k) xs
    filter_zero k count [] = refl
    filter_zero k count (x ∷ xs) =
        ap (λ m. cond (nat_lt m k) (x ∷ filter (λ z. nat_lt (count z) k) xs) (filter (λ z. nat_lt (count z) k) xs)) (sym (zero-add (count x)))
        ∙ ap (λ l. cond (nat_lt (0 + count x) k) (x ∷ l) l) (filter_zero k count xs)

pub take_twice : {K : Type 0} (k : ℕ) (ys : List K) → take k (take k ys) ≡ take k ys
take_twice zero ys = refl
take_twice (suc k) [] = refl
take_twice (suc k) (y ∷ ys) = ap (λ l. y ∷ l) (take_twice k ys)

take_cons : {K : Type 0} (k : ℕ) (y : K) (ys : List K) → take k (y ∷ ys) ≡ take k (y ∷ take k ys)
take_cons {K} zero y ys = refl
take_cons {K} (suc k) y ys = ap (λ l. y ∷ l) (fewer k ys)
  where
    fewer : (k : ℕ) (ys : List K) → take k ys ≡ take k (take (suc k) ys)
    fewer zero ys = refl
    fewer (suc k) [] = refl
    fewer (suc k) (z ∷ ys) = ap (λ l. z ∷ l) (fewer k ys)

-- the first k of a list with one more
pub take_put : {K : Type 0} (R : K → K → Ordering) (k : ℕ) (ys : List K) (x : K) → take k (put R ys x) ≡ take k (put R (take k ys) x)
take_put R zero ys x = refl
take_put R (suc k) [] x = refl
take_put R (suc k) (y ∷ ys) x =
    elim (R y x) as (λ r. take (suc k) (by_ordering r (y ∷ put R ys x) (y ∷ ys) (x ∷ y ∷ ys)) ≡ take (suc k) (by_ordering r (y ∷ put R (take k ys) x) (y ∷ take k ys) (x ∷ y ∷ take k ys))) [
      | Less ↦ ap (λ l. y ∷ l) (take_put R k ys x)
      | Equal ↦ ap (λ l. y ∷ l) (sym (take_twice k ys))
      | Greater ↦ ap (λ l. x ∷ l) (take_cons k y ys)
    ]

cond_cons : {K : Type 0} (b : Bool) (y : K) (l m : List K) → y ∷ cond b l m ≡ cond b (y ∷ l) (y ∷ m)
cond_cons true y l m = refl
cond_cons false y l m = refl

pub put_place : {K : Type 0} (R : K → K → Ordering) (ys : List K) (x : K) → put R ys x ≡ cond (new_at R ys (place_in R ys x) x) (insert ys (place_in R ys x) x) ys
put_place R [] x = refl
put_place {K} R (y ∷ ys) x =
    elim (R y x) as (λ r. R y x ≡ r → by_ordering r (y ∷ put R ys x) (y ∷ ys) (x ∷ y ∷ ys) ≡ cond (new_at R (y ∷ ys) (by_ordering r (suc (place_in R ys x)) 0 0) x) (insert (y ∷ ys) (by_ordering r (suc (place_in R ys x)) 0 0) x) (y ∷ ys)) [
      | Less ↦ λ e. ap (λ l. y ∷ l) (put_place R ys x) ∙ cond_cons (new_at R ys (place_in R ys x) x) y (insert ys (place_in R ys x) x) ys
      | Equal ↦ λ e. ap (λ r. cond (not (is_eq r)) (x ∷ y ∷ ys) (y ∷ ys)) (sym e)
      | Greater ↦ λ e. ap (λ r. cond (not (is_eq r)) (x ∷ y ∷ ys) (y ∷ ys)) (sym e)
    ] refl

pub place_le : {K : Type 0} (R : K → K → Ordering) (ys : List K) (x : K) → place_in R ys x ≤ length ys
place_le R [] x = omega arith
place_le R (y ∷ ys) x =
    elim (R y x) as (λ r. by_ordering r (suc (place_in R ys x)) 0 0 ≤ suc (length ys)) [
      | Less ↦ (let h = place_le R ys x in omega arith)
      | Equal ↦ omega arith
      | Greater ↦ omega arith
    ]

-- in order, the place of x is how many are below it
pub place_count : {K : Type 0} {R : K → K → Ordering} → IsTotalOrder R → (ys : List K) (x : K) → IsStrictlySortedBy R ys → length (filter (λ y. is_lt (R y x)) ys) ≡ place_in R ys x
unfolding IsStrictlySortedBy
place_count o [] x h = refl
place_count {K} {R} o (y ∷ ys) x h =
    let rest = filter (λ z. is_lt (R z x)) ys in
    elim (R y x) as (λ r. R y x ≡ r → length (cond (is_lt r) (y ∷ rest) rest) ≡ by_ordering r (suc (place_in R ys x)) 0 0) [
      | Less ↦ λ e. ap suc (place_count o ys x h.1)
      | Equal ↦ λ e. ap length (none_below o x ys (all_tied o y x ys e h.0))
      | Greater ↦ λ e. let back : R x y ≡ Less = o.antisymm x y ∙ ap ordering_reverse e in ap length (none_below o x ys (all_beyond o x y ys back h.0))
    ] refl

-- in order, those below x come first
pub sorted_parts : {K : Type 0} {R : K → K → Ordering} → IsTotalOrder R → (ys : List K) (x : K) → IsStrictlySortedBy R ys → IsPartitionedBy (λ y. is_lt (R y x)) ys
unfolding IsStrictlySortedBy
sorted_parts o [] x h i j d le lt e = absurd (omega arith)
sorted_parts o (y ∷ ys) x h zero zero d le lt e = e
sorted_parts {K} {R} o (y ∷ ys) x h zero (suc j) d le lt e =
    let z = get_or ys j d in
    let first : R y z ≡ Less = All-get_or (λ w. R y w ≡ Less) ys j d (omega arith) (All-from_recursion (λ w. R y w ≡ Less) ys h.0) in
    ap is_lt (o.trans y z x first (lt_is (R z x) e))
sorted_parts o (y ∷ ys) x h (suc i) zero d le lt e = absurd (omega arith)
sorted_parts o (y ∷ ys) x h (suc i) (suc j) d le lt e = sorted_parts o ys x h.1 i j d (omega arith) (omega arith) e

pub count_front : {K : Type 0} (p : K → Bool) (ys : List K) (i : ℕ) → i ≤ length ys → ((k : ℕ) (d : K) → k < i → p (get_or ys k d) ≡ true) → ((k : ℕ) (d : K) → i ≤ k → k < length ys → p (get_or ys k d) ≡ false) → i ≡ length (filter p ys)
count_front p [] i le a b = omega arith
count_front {K} p (y ∷ ys) zero le a b =
    let out : p y ≡ false = b 0 y (omega arith) (omega arith) in
    count_front p ys zero (omega arith) (λ k d lt. absurd (omega arith)) (λ k d ge lt. b (suc k) d (omega arith) (omega arith))
    ∙ sym (ap (λ v. length (cond v (y ∷ filter p ys) (filter p ys))) out)
count_front {K} p (y ∷ ys) (suc i) le a b =
    let in_ : p y ≡ true = a 0 y (omega arith) in
    ap suc (count_front p ys i (omega arith) (λ k d lt. a (suc k) d (omega arith)) (λ k d ge lt. b (suc k) d (omega arith) (omega arith)))
    ∙ sym (ap (λ v. length (cond v (y ∷ filter p ys) (filter p ys))) in_)

pub new_end : {K : Type 0} (R : K → K → Ordering) (ys : List K) (x : K) → new_at R ys (length ys) x ≡ true
new_end R [] x = refl
new_end R (y ∷ ys) x = new_end R ys x

pub new_here : {K : Type 0} (R : K → K → Ordering) (ys : List K) (n : ℕ) (x d : K) → n < length ys → new_at R ys n x ≡ not (is_eq (R (get_or ys n d) x))
new_here R [] n x d h = absurd (omega arith)
new_here R (y ∷ ys) zero x d h = refl
new_here R (y ∷ ys) (suc n) x d h = new_here R ys n x d (omega arith)

take_all : {K : Type 0} (k : ℕ) (ys : List K) → length ys ≤ k → take k ys ≡ ys
take_all k [] h = take-nil k
take_all zero (y ∷ ys) h = absurd (omega arith)
take_all (suc k) (y ∷ ys) h = ap (λ l. y ∷ l) (take_all k ys (omega arith))

end_stays : {K : Type 0} (b : Bool) (k p : ℕ) (ys : List K) (x : K) → p ≡ length ys → k ≡ length ys → take k (cond b (insert ys p x) ys) ≡ ys
end_stays false k p ys x e f = ap (λ n. take n ys) f ∙ take-length ys
end_stays {K} true k p ys x e f =
    ap (λ n. take k (insert ys n x)) e
    ∙ ap (λ (l : List K). take k (l ++ x ∷ drop (length ys) ys)) (take-length ys)
    ∙ ap (λ n. take n (ys ++ x ∷ drop (length ys) ys)) f
    ∙ take-append_seam ys (x ∷ drop (length ys) ys)

-- a place past the end: nothing changes
pub put_past : {K : Type 0} (R : K → K → Ordering) (k : ℕ) (ys : List K) (x : K) → length ys ≤ k → k ≤ place_in R ys x → ys ≡ take k (put R ys x)
put_past R k ys x le far =
    let h = place_le R ys x in
    sym (ap (take k) (put_place R ys x) ∙ end_stays (new_at R ys (place_in R ys x) x) k (place_in R ys x) ys x (omega arith) (omega arith))

-- not new: nothing changes
pub put_old : {K : Type 0} (R : K → K → Ordering) (k : ℕ) (ys : List K) (x : K) → length ys ≤ k → new_at R ys (place_in R ys x) x ≡ false → ys ≡ take k (put R ys x)
put_old {K} R k ys x le old = sym (ap (take k) (put_place R ys x ∙ ap (λ b. cond b (insert ys (place_in R ys x) x) ys) old) ∙ take_all k ys le)

pub put_new : {K : Type 0} (R : K → K → Ordering) (ys : List K) (x : K) → new_at R ys (place_in R ys x) x ≡ true → insert ys (place_in R ys x) x ≡ put R ys x
put_new R ys x e = sym (put_place R ys x ∙ ap (λ b. cond b (insert ys (place_in R ys x) x) ys) e)

insert_take : {K : Type 0} (i n : ℕ) (xs : List K) (x : K) → i ≤ n → i ≤ length xs → take (suc n) (insert xs i x) ≡ insert (take n xs) i x
insert_take zero n xs x a b = refl
insert_take (suc i) n [] x a b = absurd (omega (arith, b))
insert_take (suc i) zero (y ∷ ys) x a b = absurd (omega (arith, a))
insert_take (suc i) (suc n) (y ∷ ys) x a b = ap (λ l. y ∷ l) (insert_take i n ys x (omega (arith, a)) (omega (arith, b)))

-- the first k after one more at one of the first k places, in room for k
pub take_insert : {K : Type 0} (i k : ℕ) (xs : List K) (x : K) → i < k → i ≤ length xs → take k (insert xs i x) ≡ insert (take (k - 1) xs) i x
take_insert i k xs x lt le =
    let more : k ≡ suc (k - 1) = omega arith in
    ap (λ (n : ℕ). take n (insert xs i x)) more ∙ insert_take i (k - 1) xs x (omega arith) le
