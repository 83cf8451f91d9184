-- Who is among the k closest of a list: those of the list with fewer than k different others closer.
use Rattle.std.proofs.Common.{◌≡◌, ℕ, ◌<◌, ◌≤◌, List, [], ◌∷◌, Bool, true, false, ◌||◌, ◌&&◌, not, ◌++◌, cond, refl, sym, ap, subst, ◌∙◌, arith}
use Rattle.std.specs.Prelude.{filter, fold, nat_lt}
use Rattle.std.specs.List.{IsDistinct, AllByRecursion}
use Rattle.std.specs.List.Sorted.{IsStrictlySortedBy}
use Rattle.std.specs.Ordering.{is_lt, is_eq, eq_by_cmp}
use Rattle.std.specs.declared.cmp.Ordering.{Ordering}
use Rattle.std.specs.declared.cmp.Ordering.TheVariants.{Less, Equal, Greater}
use Rattle.std.proofs.lemmas.Cmp.{eq_by_cmp_equiv, tied_itself}
use Rattle.std.proofs.lemmas.Map.Keys.{IsDistinct-from_sorted}
use Rattle.std.proofs.lemmas.Map.Made.{length-le_from_is_member}
use Rattle.std.proofs.lemmas.Bool.{and_parts, and_from, lt-ltb, ltb-true}
use Rattle.kad_base.specs.declared.types.Id.{Id}
use Rattle.kad_base.specs.declared.types.Contact.{Contact}
use Rattle.kad_base.specs.Contacts.{same, among, without}
use Rattle.kad_base.proofs.Contacts.{same_exact, contact_total, among_more}
use Rattle.kad_distance.specs.Order.{closeness}
use Rattle.kad_distance.specs.KClosest.{by_ordering, put, each_once, count_below, least, k_closest}
use Rattle.kad_distance.proofs.Orders.{closeness_total, closeness_exact}
use Rattle.kad_distance.proofs.Least.{each_once_rises}
use Rattle.kad_distance.proofs.Chosen.{closest_same, closest_beyond}
use Rattle.claim_book.proofs.Among.{among_filter, among_one, among_without, in_list, from_list, without_absent}

or_swap : (a b c : Bool) → (a || (b || c)) ≡ ((a || b) || c)
or_swap true b c = refl
or_swap false b c = refl

among_put : (t : Id) (ys : List Contact) (x c : Contact) → among (put (closeness t) ys x) c ≡ (among ys c || same c x)
among_put t [] x c = flip (same c x)
  where
    flip : (b : Bool) → (b || false) ≡ (false || b)
    flip true = refl
    flip false = refl
among_put t (y ∷ ys) x c =
    elim (closeness t y x) as (λ r. closeness t y x ≡ r → among (by_ordering r (y ∷ put (closeness t) ys x) (y ∷ ys) (x ∷ y ∷ ys)) c ≡ ((same c y || among ys c) || same c x)) [
      | Less ↦ λ e. ap (λ b. same c y || b) (among_put t ys x c) ∙ or_swap (same c y) (among ys c) (same c x)
      | Equal ↦ λ e. twice (same c y) (among ys c) (same c x) (ap (same c) (sym (closeness_exact t y x e)))
      | Greater ↦ λ e. front (same c x) (same c y || among ys c)
    ] refl
  where
    twice : (a b d : Bool) → d ≡ a → (a || b) ≡ ((a || b) || d)
    twice true b d e = refl
    twice false true d e = refl
    twice false false d e = sym e

    front : (a b : Bool) → (a || b) ≡ (b || a)
    front true true = refl
    front true false = refl
    front false true = refl
    front false false = refl

among_fold : (t : Id) (S ys : List Contact) (c : Contact) → among (fold (put (closeness t)) ys S) c ≡ (among ys c || among S c)
among_fold t [] ys c = no (among ys c)
  where
    no : (b : Bool) → b ≡ (b || false)
    no true = refl
    no false = refl
among_fold t (x ∷ S) ys c = among_fold t S (put (closeness t) ys x) c ∙ ap (λ b. b || among S c) (among_put t ys x c) ∙ sym (or_swap (among ys c) (same c x) (among S c))

pub among_once : (t : Id) (S : List Contact) (c : Contact) → among (each_once (closeness t) S) c ≡ among S c
among_once t S c = among_fold t S [] c

-- the k closest of a list by its members
pub among_closest : (t : Id) (k : ℕ) (S : List Contact) (c : Contact) → among (k_closest t k S) c ≡ (among S c && nat_lt (count_below (closeness t) S c) k)
unfolding least
among_closest t k S c = among_filter (λ x. nat_lt (count_below (closeness t) S x) k) (each_once (closeness t) S) c ∙ ap (λ b. b && nat_lt (count_below (closeness t) S c) k) (among_once t S c)

-- who are apart in the order are not the same
apart : (t : Id) (a b : Contact) → eq_by_cmp (closeness t) a b ≡ false → same a b ≡ false
apart t a b e =
    elim (same a b) as (λ r. same a b ≡ r → r ≡ false) [
      | true ↦ λ h.
          let tie = subst (λ x. is_eq (closeness t a x) ≡ true) (same_exact a b h) (ap is_eq (tied_itself (closeness_total t) a)) in
          absurd cc
      | false ↦ λ h. refl
    ] refl

all_apart : (t : Id) (a : Contact) (xs : List Contact) → AllByRecursion (λ y. eq_by_cmp (closeness t) a y ≡ false) xs → AllByRecursion (λ y. same a y ≡ false) xs
all_apart t a [] h = tt
all_apart t a (x ∷ xs) h = (apart t a x h.0, all_apart t a xs h.1)

distinct_apart : (t : Id) (xs : List Contact) → IsDistinct (eq_by_cmp (closeness t)) xs → IsDistinct same xs
unfolding IsDistinct
distinct_apart t [] h = tt
distinct_apart t (x ∷ xs) h = (all_apart t x xs h.0, distinct_apart t xs h.1)

-- in strict order each stands once
pub distinct_sorted : (t : Id) (xs : List Contact) → IsStrictlySortedBy (closeness t) xs → IsDistinct same xs
distinct_sorted t xs h = distinct_apart t xs (IsDistinct-from_sorted (closeness t) xs h)

all_filter : (p q : Contact → Bool) (xs : List Contact) → AllByRecursion (λ y. q y ≡ false) xs → AllByRecursion (λ y. q y ≡ false) (filter p xs)
all_filter p q [] h = tt
all_filter p q (x ∷ xs) h =
    elim (p x) as (λ b. AllByRecursion (λ y. q y ≡ false) (cond b (x ∷ filter p xs) (filter p xs))) [
      | true ↦ (h.0, all_filter p q xs h.1)
      | false ↦ all_filter p q xs h.1
    ]

pub distinct_filter : (p : Contact → Bool) (xs : List Contact) → IsDistinct same xs → IsDistinct same (filter p xs)
unfolding IsDistinct
distinct_filter p [] h = tt
distinct_filter p (x ∷ xs) h =
    elim (p x) as (λ b. IsDistinct same (cond b (x ∷ filter p xs) (filter p xs))) [
      | true ↦ (all_filter p (same x) xs h.0, distinct_filter p xs h.1)
      | false ↦ distinct_filter p xs h.1
    ]

-- of fewer contacts fewer are closer
pub fewer_below : (t : Id) (S T : List Contact) (x : Contact) → ((c : Contact) → among S c ≡ true → among T c ≡ true) → count_below (closeness t) S x ≤ count_below (closeness t) T x
fewer_below t S T x sub =
    let R = closeness t in
    let p = λ (y : Contact). is_lt (R y x) in
    length-le_from_is_member (eq_by_cmp_equiv contact_total) (filter p (each_once R S)) (filter p (each_once R T))
    (distinct_filter p (each_once R S) (distinct_sorted t (each_once R S) (each_once_rises (closeness_total t) S)))
    (λ c h.
    let parts = and_parts (among (each_once R S) c) (p c) (sym (among_filter p (each_once R S) c) ∙ h) in
    among_filter p (each_once R T) c ∙ and_from (among (each_once R T) c) (p c) (among_once t T c ∙ sub c (sym (among_once t S c) ∙ parts.0)) parts.1)

-- among the k closest of more contacts, and one of fewer: among the k closest of the fewer
pub closest_of_fewer : (t : Id) (k : ℕ) (S T : List Contact) (c : Contact) → ((x : Contact) → among S x ≡ true → among T x ≡ true) → among S c ≡ true → among (k_closest t k T) c ≡ true → among (k_closest t k S) c ≡ true
closest_of_fewer t k S T c sub here h =
    let R = closeness t in
    let parts = and_parts (among T c) (nat_lt (count_below R T c) k) (sym (among_closest t k T c) ∙ h) in
    let lt : count_below R T c < k = ltb-true (count_below R T c) k parts.1 in
    let le = fewer_below t S T c sub in
    let lt' : count_below R S c < k = omega arith in
    among_closest t k S c ∙ and_from (among S c) (nat_lt (count_below R S c) k) here (lt-ltb (count_below R S c) k lt')

-- the k closest are of the list
pub closest_within : (t : Id) (k : ℕ) (S : List Contact) (c : Contact) → among (k_closest t k S) c ≡ true → among S c ≡ true
closest_within t k S c h = (and_parts (among S c) (nat_lt (count_below (closeness t) S c) k) (sym (among_closest t k S c) ∙ h)).0

-- lists with the same contacts have the same k closest
pub closest_alike : (t : Id) (k : ℕ) (S T : List Contact) → ((c : Contact) → among S c ≡ among T c) → k_closest t k S ≡ k_closest t k T
closest_alike t k S T f = closest_same t k S T (λ c. (λ i. in_list T c (sym (f c) ∙ from_list S c i), λ i. in_list S c (f c ∙ from_list T c i)))

-- one that isn't among the k closest may be left out
pub closest_stays : (t : Id) (k : ℕ) (A : List Contact) (c : Contact) → among (k_closest t k A) c ≡ false → k_closest t k (without A (c ∷ [])) ≡ k_closest t k A
closest_stays t k A c out = by (among A c) refl
  where
    rejoin : (a b : Bool) → (b ≡ true → a ≡ true) → ((a && not b) || b) ≡ a
    rejoin true true f = refl
    rejoin true false f = refl
    rejoin false true f = sym (f refl)
    rejoin false false f = refl

    by : (b : Bool) → among A c ≡ b → k_closest t k (without A (c ∷ [])) ≡ k_closest t k A
    by true h =
        let S = without A (c ∷ []) in
        let whole : k_closest t k (S ++ c ∷ []) ≡ k_closest t k A =
        closest_alike t k (S ++ c ∷ []) A
        (λ d. among_more S (c ∷ []) d ∙ ap (λ b. b || among (c ∷ []) d) (among_without A (c ∷ []) d) ∙ rejoin (among A d) (among (c ∷ []) d) (λ e. subst (λ x. among A x ≡ true) (sym (among_one d c e)) h)) in
        sym (closest_beyond t k S c (λ i. let here = sym (ap (λ l. among l c) whole) ∙ from_list (k_closest t k (S ++ c ∷ [])) c i in absurd cc)) ∙ whole
    by false h = ap (k_closest t k) (without_absent A c h)

pub sorted_two : (R : Contact → Contact → Ordering) (a b : Contact) → R a b ≡ Less → IsStrictlySortedBy R (a ∷ b ∷ [])
unfolding IsStrictlySortedBy
sorted_two R a b h = ((h, tt), (tt, tt))
