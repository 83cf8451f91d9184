-- The next contact of lists that stand in order is the first of all that is left of them.
use Rattle.std.proofs.Common.{◌≡◌, ℕ, zero, suc, ◌+◌, ◌-◌, ◌<◌, ◌≤◌, ◌⊎◌, inl, inr, List, [], ◌∷◌, ◌++◌, length, take, drop, set, get_or, map, replicate, Option, Some, None, Bool, true, false, cond, refl, sym, ap, subst, ◌∙◌, arith}
use Rattle.std.specs.Prelude.{flat_map, slice_get}
use Rattle.std.specs.List.{AllByRecursion, Contains}
use Rattle.std.specs.List.Sorted.{IsStrictlySortedBy}
use Rattle.std.specs.Ordering.{is_lt, is_eq, ordering_reverse}
use Rattle.std.specs.Cmp.{IsTotalOrder}
use Rattle.std.specs.declared.cmp.Ordering.{Ordering}
use Rattle.std.specs.declared.cmp.Ordering.TheVariants.{Less, Equal, Greater}
use Rattle.std.proofs.lemmas.Cmp.{tied_itself}
use Rattle.std.proofs.lemmas.List.{append_assoc, append-nil}
use Rattle.std.proofs.Math.Seq.{take-nil, take-append_seam}
use Rattle.std.proofs.lemmas.List.Elements.{All-from_recursion, recursion_from_All, Contains-append_cases, Contains-append_left, Contains-append_right}
use Rattle.kad_distance.specs.Order.{TiesAreEqual}
use Rattle.kad_distance.specs.KClosest.{each_once}
use Rattle.kad_distance.proofs.Least.{each_once_rises, once_all}
use Rattle.kad_distance.proofs.Members.{first_in, later_in, in_cases, same_members, once_in, once_from}
use Rattle.lookup_merge.specs.Rests.{rests, first, nearer_of, nearest_of, after, stands, place_after}

abbrev pub joined : {K : Type 0} → List (List K) → List K
joined lists = flat_map (λ list. list) lists

-- the places as the loops count them

pub first_of_rest : {K : Type 0} (list : List K) (place : ℕ) → slice_get list place ≡ first (drop place list)
first_of_rest [] zero = refl
first_of_rest [] (suc n) = refl
first_of_rest (x ∷ list) zero = refl
first_of_rest (x ∷ list) (suc n) = first_of_rest list n

drop_cond : {K : Type 0} (b : Bool) (n : ℕ) (x : K) (list : List K) → drop (cond b (suc (suc n)) (suc n)) (x ∷ list) ≡ drop (cond b (suc n) n) list
drop_cond true n x list = refl
drop_cond false n x list = refl

drop_front : {K : Type 0} (b : Bool) (x : K) (list : List K) → drop (cond b (suc zero) zero) (x ∷ list) ≡ cond b list (x ∷ list)
drop_front true x list = refl
drop_front false x list = refl

pub rest_after : {K : Type 0} (R : K → K → Ordering) (c : K) (list : List K) (place : ℕ) → drop (place_after R c list place) list ≡ after R c (drop place list)
rest_after R c [] zero = refl
rest_after R c [] (suc n) = refl
rest_after R c (x ∷ list) zero = drop_front (is_eq (R x c)) x list
rest_after R c (x ∷ list) (suc n) = drop_cond (stands R c (slice_get list n)) n x list ∙ rest_after R c list n

-- one list more of those that are passed
pub rests_step : {K : Type 0} (R : K → K → Ordering) (c : K) (lists : List (List K)) (places : List ℕ) (i v : ℕ) (d : List K) → i < length lists → length places ≡ length lists → v ≡ place_after R c (get_or lists i d) (get_or places i 0) → rests (take (suc i) lists) (take (suc i) (set places i v)) ++ map (after R c) (rests (drop (suc i) lists) (drop (suc i) (set places i v))) ≡ rests (take i lists) (take i places) ++ map (after R c) (rests (drop i lists) (drop i places))
rests_step R c [] places i v d lt same is = absurd (omega arith)
rests_step R c (l ∷ lists) [] i v d lt same is = absurd (omega arith)
rests_step {K} R c (l ∷ lists) (n ∷ places) zero v d lt same is =
    ap (λ (d : List K). d ∷ map (after R c) (rests lists places)) (ap (λ m. drop m l) is ∙ rest_after R c l n)
rests_step {K} R c (l ∷ lists) (n ∷ places) (suc i) v d lt same is =
    ap (λ (ds : List (List K)). drop n l ∷ ds) (rests_step R c lists places i v d (omega arith) (omega arith) is)

pub rests_at : {K : Type 0} (lists : List (List K)) (places : List ℕ) (i : ℕ) (d : List K) → i < length lists → length places ≡ length lists → rests (drop i lists) (drop i places) ≡ drop (get_or places i 0) (get_or lists i d) ∷ rests (drop (suc i) lists) (drop (suc i) places)
rests_at [] places i d lt same = absurd (omega arith)
rests_at (l ∷ lists) [] i d lt same = absurd (omega arith)
rests_at (l ∷ lists) (n ∷ places) zero d lt same = refl
rests_at (l ∷ lists) (n ∷ places) (suc i) d lt same = rests_at lists places i d (omega arith) (omega arith)

-- the next list in the search for the nearest
pub nearest_more : {K : Type 0} (R : K → K → Ordering) (best more all : Option K) (lists : List (List K)) (places : List ℕ) (i : ℕ) (list : List K) → i < length lists → length places ≡ length lists → list ≡ get_or lists i list → more ≡ nearer_of R best (slice_get list (get_or places i 0)) → nearest_of R best (rests (drop i lists) (drop i places)) ≡ all → nearest_of R more (rests (drop (i + 1) lists) (drop (i + 1) places)) ≡ all
nearest_more {K} R best more all lists places i list lt same at is e =
    let next : suc i ≡ i + 1 = omega arith in
    let n = get_or places i 0 in
    subst (λ (m : ℕ). nearest_of R more (rests (drop m lists) (drop m places)) ≡ all) next
    (ap (λ (b : Option K). nearest_of R b (rests (drop (suc i) lists) (drop (suc i) places))) (is ∙ ap (nearer_of R best) (first_of_rest list n ∙ ap (λ (l : List K). first (drop n l)) at))
    ∙ sym (ap (nearest_of R best) (rests_at lists places i list lt same))
    ∙ e)

-- the next list that is passed
pub advance_more : {K : Type 0} (R : K → K → Ordering) (c : K) (lists all : List (List K)) (places : List ℕ) (i v : ℕ) (list : List K) → i < length lists → length places ≡ length lists → list ≡ get_or lists i list → v ≡ place_after R c list (get_or places i 0) → rests (take i lists) (take i places) ++ map (after R c) (rests (drop i lists) (drop i places)) ≡ all → rests (take (i + 1) lists) (take (i + 1) (set places i v)) ++ map (after R c) (rests (drop (i + 1) lists) (drop (i + 1) (set places i v))) ≡ all
advance_more {K} R c lists all places i v list lt same at is e =
    let next : suc i ≡ i + 1 = omega arith in
    subst (λ (m : ℕ). rests (take m lists) (take m (set places i v)) ++ map (after R c) (rests (drop m lists) (drop m (set places i v))) ≡ all) next
    (rests_step R c lists places i v list lt same (is ∙ ap (λ (l : List K). place_after R c l (get_or places i 0)) at) ∙ e)

pub rests_all : {K : Type 0} (lists : List (List K)) → rests lists (replicate (length lists) 0) ≡ lists
rests_all [] = refl
rests_all {K} (l ∷ lists) = ap (λ (ds : List (List K)). l ∷ ds) (rests_all lists)

drop_rises : {K : Type 0} (R : K → K → Ordering) (n : ℕ) (list : List K) → IsStrictlySortedBy R list → IsStrictlySortedBy R (drop n list)
unfolding IsStrictlySortedBy
drop_rises R zero list h = h
drop_rises R (suc n) [] h = tt
drop_rises R (suc n) (x ∷ list) h = drop_rises R n list h.1

pub rests_rise : {K : Type 0} (R : K → K → Ordering) (lists : List (List K)) (places : List ℕ) → AllByRecursion (IsStrictlySortedBy R) lists → AllByRecursion (IsStrictlySortedBy R) (rests lists places)
rests_rise R [] places h = tt
rests_rise R (l ∷ lists) [] h = tt
rests_rise R (l ∷ lists) (n ∷ places) h = (drop_rises R n l h.0, rests_rise R lists places h.1)

-- what the nearest one is

-- c isn't above that
abbrev NotAbove : {K : Type 0} → (K → K → Ordering) → K → K → Type 0
NotAbove R c x = R x c ≡ Less → ⊥

abbrev Held : {K : Type 0} → (K → K → Ordering) → K → Option K → Type 0
Held R c None = Unit {0}
Held R c (Some x) = NotAbove R c x

not_lt : {K : Type 0} {R : K → K → Ordering} → IsTotalOrder R → (b x c : K) → is_lt (R x b) ≡ false → NotAbove R c b → NotAbove R c x
not_lt {K} {R} o b x c n h e =
    elim (R x b) as (λ r. R x b ≡ r → is_lt r ≡ false → ⊥) [
      | Less ↦ λ q m. absurd cc
      | Equal ↦ λ q m. h (sym (o.congr x b c q) ∙ e)
      | Greater ↦ λ q m. h (o.trans b x c (o.antisymm b x ∙ ap ordering_reverse q) e)
    ] refl n

lt_below : {K : Type 0} {R : K → K → Ordering} → IsTotalOrder R → (b x c : K) → is_lt (R x b) ≡ true → NotAbove R c x → NotAbove R c b
lt_below {K} {R} o b x c n h e =
    elim (R x b) as (λ r. R x b ≡ r → is_lt r ≡ true → ⊥) [
      | Less ↦ λ q m. h (o.trans x b c q e)
      | Equal ↦ λ q m. absurd cc
      | Greater ↦ λ q m. absurd cc
    ] refl n

held_back : {K : Type 0} {R : K → K → Ordering} → IsTotalOrder R → (c : K) (best next : Option K) → Held R c (nearer_of R best next) → Held R c best × Held R c next
held_back o c None None h = (tt, tt)
held_back o c (Some b) None h = (h, tt)
held_back o c None (Some x) h = (tt, h)
held_back {K} {R} o c (Some b) (Some x) h =
    elim (is_lt (R x b)) as (λ v. is_lt (R x b) ≡ v → Held R c (cond v (Some x) (Some b)) → NotAbove R c b × NotAbove R c x) [
      | true ↦ λ e h. (lt_below o b x c e h, h)
      | false ↦ λ e h. (h, not_lt o b x c e h)
    ] refl h

first_least : {K : Type 0} {R : K → K → Ordering} → IsTotalOrder R → (c : K) (list : List K) → IsStrictlySortedBy R list → Held R c (first list) → AllByRecursion (NotAbove R c) list
unfolding IsStrictlySortedBy
first_least o c [] h held = tt
first_least {K} {R} o c (x ∷ list) h held = (held, beyond list h.0)
  where
    beyond : (ys : List K) → AllByRecursion (λ y. R x y ≡ Less) ys → AllByRecursion (NotAbove R c) ys
    beyond [] below = tt
    beyond (y ∷ ys) below = (λ e. held (o.trans x y c below.0 e), beyond ys below.1)

never_below : {K : Type 0} {R : K → K → Ordering} → IsTotalOrder R → (x : K) → R x x ≡ Less → ⊥
never_below o x e = let tie = tied_itself o x in cc

all_join : {K : Type 0} (P : K → Type 0) (xs ys : List K) → AllByRecursion P xs → AllByRecursion P ys → AllByRecursion P (xs ++ ys)
all_join P [] ys p q = q
all_join P (x ∷ xs) ys p q = (p.0, all_join P xs ys p.1 q)

-- it is below none that is left
pub nearest_least : {K : Type 0} {R : K → K → Ordering} → IsTotalOrder R → (c : K) (best : Option K) (lists : List (List K)) → AllByRecursion (IsStrictlySortedBy R) lists → nearest_of R best lists ≡ Some c → Held R c best × AllByRecursion (NotAbove R c) (joined lists)
nearest_least {K} {R} o c best [] h is = (subst (Held R c) (sym is) (never_below o c), tt)
nearest_least {K} {R} o c best (list ∷ lists) h is =
    let later = nearest_least o c (nearer_of R best (first list)) lists h.1 is in
    let both = held_back o c best (first list) later.0 in
    (both.0, all_join (NotAbove R c) list (joined lists) (first_least o c list h.0 both.1) later.1)

nearer_from : {K : Type 0} (R : K → K → Ordering) (c : K) (best next : Option K) → nearer_of R best next ≡ Some c → (best ≡ Some c) ⊎ (next ≡ Some c)
nearer_from R c best None is = inl is
nearer_from R c None (Some x) is = inr is
nearer_from R c (Some b) (Some x) is =
    elim (is_lt (R x b)) as (λ v. cond v (Some x) (Some b) ≡ Some c → (Some b ≡ Some c) ⊎ (Some x ≡ Some c)) [ true ↦ λ e. inr e | false ↦ λ e. inl e ] is

first_from : {K : Type 0} (c : K) (list : List K) → first list ≡ Some c → Contains list c
first_from c [] is = absurd cc
first_from {K} c (x ∷ list) is = let e : x ≡ c = cc in subst (λ (z : K). Contains (x ∷ list) z) e (first_in x list)

-- it is one of those left
pub nearest_from : {K : Type 0} (R : K → K → Ordering) (c : K) (best : Option K) (lists : List (List K)) → nearest_of R best lists ≡ Some c → (best ≡ Some c) ⊎ Contains (joined lists) c
nearest_from R c best [] is = inl is
nearest_from R c best (list ∷ lists) is =
    elim (nearest_from R c (nearer_of R best (first list)) lists is) [
      | inr in_ ↦ inr (Contains-append_right list (joined lists) c in_)
      | inl e ↦ elim (nearer_from R c best (first list) e) [ inl f ↦ inl f | inr f ↦ inr (Contains-append_left list (joined lists) c (first_from c list f)) ]
    ]

nearer_none : {K : Type 0} (R : K → K → Ordering) (best next : Option K) → nearer_of R best next ≡ None → (best ≡ None) × (next ≡ None)
nearer_none R best None is = (is, refl)
nearer_none R None (Some x) is = absurd cc
nearer_none {K} R (Some b) (Some x) is =
    elim (is_lt (R x b)) as (λ v. cond v (Some x) (Some b) ≡ None → (Some b ≡ None) × (Some x ≡ None)) [ true ↦ λ e. absurd cc | false ↦ λ e. absurd cc ] is

first_none : {K : Type 0} (list : List K) → first list ≡ None → list ≡ []
first_none [] is = refl
first_none (x ∷ list) is = absurd cc

-- there is none only where nothing is left
pub nearest_none : {K : Type 0} (R : K → K → Ordering) (best : Option K) (lists : List (List K)) → nearest_of R best lists ≡ None → (best ≡ None) × (joined lists ≡ [])
nearest_none R best [] is = (is, refl)
nearest_none {K} R best (list ∷ lists) is =
    let later = nearest_none R (nearer_of R best (first list)) lists is in
    let both = nearer_none R best (first list) later.0 in
    (both.0, ap (λ (l : List K). l ++ joined lists) (first_none list both.1) ∙ later.1)

-- what is left without it

eq_tie : (r : Ordering) → is_eq r ≡ true → r ≡ Equal
eq_tie Less e = absurd cc
eq_tie Equal e = refl
eq_tie Greater e = absurd cc

after_keeps : {K : Type 0} {R : K → K → Ordering} → TiesAreEqual R → (c : K) (list : List K) (z : K) → Contains list z → (c ≡ z) ⊎ Contains (after R c list) z
after_keeps t c [] z in_ = inr in_
after_keeps {K} {R} t c (x ∷ list) z in_ =
    elim (is_eq (R x c)) as (λ v. is_eq (R x c) ≡ v → (c ≡ z) ⊎ Contains (cond v list (x ∷ list)) z) [
      | true ↦ λ e. elim (in_cases x list z in_) [ inl f ↦ inl (sym (t x c (eq_tie (R x c) e)) ∙ f) | inr h ↦ inr h ]
      | false ↦ λ e. inr in_
    ] refl

after_from : {K : Type 0} (R : K → K → Ordering) (c : K) (list : List K) (z : K) → Contains (after R c list) z → Contains list z
after_from R c [] z in_ = in_
after_from {K} R c (x ∷ list) z in_ =
    elim (is_eq (R x c)) as (λ v. Contains (cond v list (x ∷ list)) z → Contains (x ∷ list) z) [ true ↦ λ h. later_in x list z h | false ↦ λ h. h ] in_

beyond : {K : Type 0} {R : K → K → Ordering} → IsTotalOrder R → (c x : K) → is_eq (R x c) ≡ false → NotAbove R c x → R c x ≡ Less
beyond {K} {R} o c x n h =
    elim (R x c) as (λ r. R x c ≡ r → is_eq r ≡ false → R c x ≡ Less) [
      | Less ↦ λ q m. absurd (h q)
      | Equal ↦ λ q m. absurd cc
      | Greater ↦ λ q m. o.antisymm c x ∙ ap ordering_reverse q
    ] refl n

all_over : {K : Type 0} {R : K → K → Ordering} → IsTotalOrder R → (c x : K) (list : List K) → R c x ≡ Less → AllByRecursion (λ y. R x y ≡ Less) list → AllByRecursion (λ y. R c y ≡ Less) list
all_over o c x [] e h = tt
all_over o c x (y ∷ list) e h = (o.trans c x y e h.0, all_over o c x list e h.1)

all_equal : {K : Type 0} {R : K → K → Ordering} → IsTotalOrder R → (c x : K) (list : List K) → R x c ≡ Equal → AllByRecursion (λ y. R x y ≡ Less) list → AllByRecursion (λ y. R c y ≡ Less) list
all_equal o c x [] e h = tt
all_equal o c x (y ∷ list) e h = (sym (o.congr x c y e) ∙ h.0, all_equal o c x list e h.1)

after_above : {K : Type 0} {R : K → K → Ordering} → IsTotalOrder R → (c : K) (list : List K) → IsStrictlySortedBy R list → AllByRecursion (NotAbove R c) list → AllByRecursion (λ y. R c y ≡ Less) (after R c list)
unfolding IsStrictlySortedBy
after_above o c [] h n = tt
after_above {K} {R} o c (x ∷ list) h n =
    elim (is_eq (R x c)) as (λ v. is_eq (R x c) ≡ v → AllByRecursion (λ y. R c y ≡ Less) (cond v list (x ∷ list))) [
      | true ↦ λ e. all_equal o c x list (eq_tie (R x c) e) h.0
      | false ↦ λ e. let first_is : R c x ≡ Less = beyond o c x e n.0 in (first_is, all_over o c x list first_is h.0)
    ] refl

pub joined_keeps : {K : Type 0} {R : K → K → Ordering} → TiesAreEqual R → (c : K) (lists : List (List K)) (z : K) → Contains (joined lists) z → (c ≡ z) ⊎ Contains (joined (map (after R c) lists)) z
joined_keeps t c [] z in_ = inr in_
joined_keeps {K} {R} t c (list ∷ lists) z in_ =
    let D = after R c list in
    let E = joined (map (after R c) lists) in
    elim (Contains-append_cases list (joined lists) z in_) [
      | inl h ↦ elim (after_keeps t c list z h) [ inl e ↦ inl e | inr k ↦ inr (Contains-append_left D E z k) ]
      | inr h ↦ elim (joined_keeps t c lists z h) [ inl e ↦ inl e | inr k ↦ inr (Contains-append_right D E z k) ]
    ]

pub joined_from : {K : Type 0} (R : K → K → Ordering) (c : K) (lists : List (List K)) (z : K) → Contains (joined (map (after R c) lists)) z → Contains (joined lists) z
joined_from R c [] z in_ = in_
joined_from {K} R c (list ∷ lists) z in_ =
    elim (Contains-append_cases (after R c list) (joined (map (after R c) lists)) z in_) [
      | inl h ↦ Contains-append_left list (joined lists) z (after_from R c list z h)
      | inr h ↦ Contains-append_right list (joined lists) z (joined_from R c lists z h)
    ]

all_left : {K : Type 0} (P : K → Type 0) (xs ys : List K) → AllByRecursion P (xs ++ ys) → AllByRecursion P xs × AllByRecursion P ys
all_left P [] ys h = (tt, h)
all_left P (x ∷ xs) ys h = let more = all_left P xs ys h.1 in ((h.0, more.0), more.1)

joined_above : {K : Type 0} {R : K → K → Ordering} → IsTotalOrder R → (c : K) (lists : List (List K)) → AllByRecursion (IsStrictlySortedBy R) lists → AllByRecursion (NotAbove R c) (joined lists) → AllByRecursion (λ y. R c y ≡ Less) (joined (map (after R c) lists))
joined_above o c [] h n = tt
joined_above {K} {R} o c (list ∷ lists) h n =
    let parts = all_left (NotAbove R c) list (joined lists) n in
    all_join (λ y. R c y ≡ Less) (after R c list) (joined (map (after R c) lists)) (after_above o c list h.0 parts.0) (joined_above o c lists h.1 parts.1)

-- the nearest one comes first, and then what is left without it
pub nearest_first : {K : Type 0} {R : K → K → Ordering} → IsTotalOrder R → TiesAreEqual R → (c : K) (lists : List (List K)) → AllByRecursion (IsStrictlySortedBy R) lists → nearest_of R None lists ≡ Some c → each_once R (joined lists) ≡ c ∷ each_once R (joined (map (after R c) lists))
unfolding IsStrictlySortedBy
nearest_first {K} {R} o t c lists h is =
    let S = joined lists in
    let T = joined (map (after R c) lists) in
    let above = joined_above o c lists h (nearest_least o c None lists h is).1 in
    let least : AllByRecursion (λ y. R c y ≡ Less) (each_once R T) = recursion_from_All (λ y. R c y ≡ Less) (each_once R T) (once_all R (λ y. R c y ≡ Less) T (All-from_recursion (λ y. R c y ≡ Less) T above)) in
    same_members o (each_once R S) (c ∷ each_once R T) (each_once_rises o S) (least, each_once_rises o T)
    (λ z in_. elim (joined_keeps t c lists z (once_from R S z in_)) [
      | inl e ↦ subst (λ (w : K). Contains (c ∷ each_once R T) w) e (first_in c (each_once R T))
      | inr k ↦ later_in c (each_once R T) z (once_in t T z k)
    ])
    (λ z in_. elim (in_cases c (each_once R T) z in_) [
      | inl e ↦ once_in t S z (subst (λ (w : K). Contains S w) e (elim (nearest_from R c None lists is) [ inl f ↦ absurd cc | inr k ↦ k ]))
      | inr k ↦ once_in t S z (joined_from R c lists z (once_from R T z k))
    ])

-- one step of the merging
pub merge_step : {K : Type 0} {R : K → K → Ordering} → IsTotalOrder R → TiesAreEqual R → (c : K) (lists : List (List K)) (found all : List K) (k i : ℕ) → i < k → AllByRecursion (IsStrictlySortedBy R) lists → nearest_of R None lists ≡ Some c → found ++ take (k - i) (each_once R (joined lists)) ≡ all → (found ++ c ∷ []) ++ take (k - (i + 1)) (each_once R (joined (map (after R c) lists))) ≡ all
merge_step {K} {R} o t c lists found all k i lt h is e =
    let T = each_once R (joined (map (after R c) lists)) in
    let one : k - i ≡ suc (k - (i + 1)) = omega arith in
    append_assoc found (c ∷ []) (take (k - (i + 1)) T)
    ∙ ap (λ (l : List K). found ++ l) (sym (ap (λ n. take n (each_once R (joined lists))) one ∙ ap (take (suc (k - (i + 1)))) (nearest_first o t c lists h is)))
    ∙ e

pub merge_start : {K : Type 0} (R : K → K → Ordering) (lists : List (List K)) (places : List ℕ) (k : ℕ) → places ≡ replicate (length lists) 0 → take (k - 0) (each_once R (joined (rests lists places))) ≡ take k (each_once R (joined lists))
merge_start {K} R lists places k is =
    let whole : k - 0 ≡ k = omega arith in
    ap (λ m. take m (each_once R (joined (rests lists places)))) whole
    ∙ ap (λ (l : List (List K)). take k (each_once R (joined l))) (ap (rests lists) is ∙ rests_all lists)

pub merge_none : {K : Type 0} (R : K → K → Ordering) (lists : List (List K)) (found all : List K) (n : ℕ) → nearest_of R None lists ≡ None → found ++ take n (each_once R (joined lists)) ≡ all → found ≡ all
merge_none {K} R lists found all n is e =
    sym (append-nil found)
    ∙ ap (λ (l : List K). found ++ l) (sym (take-nil n) ∙ ap (λ (l : List K). take n (each_once R l)) (sym (nearest_none R None lists is).1))
    ∙ e

pub merge_end : {K : Type 0} (R : K → K → Ordering) (lists : List (List K)) (found all : List K) (k i : ℕ) → k ≤ i → found ++ take (k - i) (each_once R (joined lists)) ≡ all → found ≡ all
merge_end {K} R lists found all k i past e =
    let zero_left : k - i ≡ 0 = omega arith in
    sym (append-nil found) ∙ ap (λ m. found ++ take m (each_once R (joined lists))) (sym zero_left) ∙ e

pub merge_more : {K : Type 0} {R : K → K → Ordering} → IsTotalOrder R → TiesAreEqual R → (c : K) (lists passed : List (List K)) (found more all : List K) (k i : ℕ) → i < k → AllByRecursion (IsStrictlySortedBy R) lists → nearest_of R None lists ≡ Some c → passed ≡ map (after R c) lists → more ≡ found ++ c ∷ [] → found ++ take (k - i) (each_once R (joined lists)) ≡ all → more ++ take (k - (i + 1)) (each_once R (joined passed)) ≡ all
merge_more {K} {R} o t c lists passed found more all k i lt h is p m e =
    ap (λ (l : List K). l ++ take (k - (i + 1)) (each_once R (joined passed))) m
    ∙ ap (λ (l : List (List K)). (found ++ c ∷ []) ++ take (k - (i + 1)) (each_once R (joined l))) p
    ∙ merge_step o t c lists found all k i lt h is e

-- a slice of a whole `Vec` that was written
pub written : (n : ℕ) (new old : List ℕ) → n ≡ length new → take n (new ++ drop (length new) old) ≡ new
written n new old e = ap (λ m. take m (new ++ drop (length new) old)) e ∙ take-append_seam new (drop (length new) old)
