-- When the k closest of a list stay those of a longer one.
use Rattle.std.proofs.Common.{◌≡◌, ℕ, ◌-◌, ◌<◌, ◌≤◌, true, subst, inl, inr, List, [], ◌∷◌, ◌++◌, length, take, get_or, sym, ap, ◌∙◌, arith}
use Rattle.std.specs.List.{All, AllByRecursion, Contains}
use Rattle.std.specs.List.Sorted.{IsStrictlySortedBy}
use Rattle.std.specs.declared.cmp.Ordering.{Ordering}
use Rattle.std.specs.declared.cmp.Ordering.TheVariants.{Less}
use Rattle.std.proofs.lemmas.Bool.{cases_lt}
use Rattle.std.proofs.lemmas.List.{get_or_default}
use Rattle.std.proofs.lemmas.Map.Keys.{Less-from_sorted}
use Rattle.std.proofs.Math.Seq.{take-append_seam}
use Rattle.std.proofs.lemmas.List.Elements.{All-cons, All-nil, All-head, All-tail, recursion_from_All, Contains-append_cases, Contains-append_left}
use Rattle.kad_base.specs.declared.types.Id.{Id}
use Rattle.kad_base.specs.declared.types.Contact.{Contact}
use Rattle.kad_base.specs.Contacts.{among}
use Rattle.kad_base.proofs.Contacts.{same_exact}
use Rattle.std.proofs.lemmas.Map.Views.{Contains-from_any}
use Rattle.kad_distance.proofs.Members.{in_cases}
use Rattle.kad_distance.proofs.Orders.{closeness_total}
use Rattle.kad_distance.specs.Order.{closeness, IsCloser}
use Rattle.kad_distance.specs.KClosest.{k_closest}
use Rattle.kad_distance.proofs.Chosen.{closest_rises, closest_joined, closest_kept, closest_front, closest_same, closest_all}

append_rec : {K : Type 0} (P : K → Type 0) (xs ys : List K) → AllByRecursion P xs → AllByRecursion P ys → AllByRecursion P (xs ++ ys)
append_rec P [] ys a b = b
append_rec P (x ∷ xs) ys a b = (a.0, append_rec P xs ys a.1 b)

-- two lists in strict order, the first below the second
sorted_append : {K : Type 0} (R : K → K → Ordering) (xs ys : List K) → IsStrictlySortedBy R xs → IsStrictlySortedBy R ys → All (λ x. All (λ y. R x y ≡ Less) ys) xs → IsStrictlySortedBy R (xs ++ ys)
unfolding IsStrictlySortedBy
sorted_append R [] ys a b below = b
sorted_append {K} R (x ∷ xs) ys a b below =
    let P = λ (y : K). R x y ≡ Less in
    let head : All P ys = All-head (λ (x : K). All (λ y. R x y ≡ Less) ys) x xs below in
    (append_rec P xs ys a.0 (recursion_from_All P ys head), sorted_append R xs ys a.1 b (All-tail (λ (x : K). All (λ y. R x y ≡ Less) ys) x xs below))

-- k contacts in strict order, each closer than each of the others, are the k closest of all
pub closest_full : (target : Id) (k : ℕ) (S T : List Contact) → IsStrictlySortedBy (closeness target) S → length S ≡ k → All (λ a. All (λ b. IsCloser target a b) T) S → S ≡ k_closest target k (S ++ T)
closest_full target k S T sorted full closer =
    let near = k_closest target k T in
    let all : All (λ a. All (λ b. IsCloser target a b) near) S = λ i d lt. closest_all target k T (IsCloser target (get_or S i d)) (closer i d lt) in
    let kept : k_closest target k S ≡ S = closest_kept target k S sorted (omega (arith, full)) in
    let both : IsStrictlySortedBy (closeness target) (S ++ near) = sorted_append (closeness target) S near sorted (closest_rises target k T) all in
    sym (
    closest_joined target k S T ∙ ap (λ (l : List Contact). k_closest target k (l ++ near)) kept
    ∙ closest_front target k (S ++ near) both ∙ ap (λ (n : ℕ). take n (S ++ near)) (sym full) ∙ take-append_seam S near
    )

-- one that is among those in strict order, at most k, changes nothing
pub closest_there : (target : Id) (k : ℕ) (S : List Contact) (c : Contact) → IsStrictlySortedBy (closeness target) S → length S ≤ k → among S c ≡ true → S ≡ k_closest target k (S ++ c ∷ [])
closest_there target k S c sorted few there =
    sym (closest_same target k (S ++ c ∷ []) S (λ d. (back d, λ h. Contains-append_left S (c ∷ []) d h)) ∙ closest_kept target k S sorted few)
  where
    is : Contains S c
    is = Contains-from_any same_exact c S there

    back : (d : Contact) → Contains (S ++ c ∷ []) d → Contains S d
    back d h = elim (Contains-append_cases S (c ∷ []) d h) [ inl s ↦ s | inr t ↦ elim (in_cases c [] d t) [ inl e ↦ subst (λ (x : Contact). Contains S x) e is | inr (n, lt, e) ↦ absurd (omega arith) ] ]

-- a contact that is farther than the last is farther than each
pub all_closer : (target : Id) (near : List Contact) (c last : Contact) → IsStrictlySortedBy (closeness target) near → 0 < length near → last ≡ get_or near (length near - 1) last → IsCloser target last c → All (λ x. IsCloser target x c) near
all_closer target near c last sorted some is closer i d lt =
    elim (cases_lt i (length near - 1)) [
      | inl before ↦ (closeness_total target).trans (get_or near i d) last c (subst (λ (x : Contact). closeness target (get_or near i d) x ≡ Less) (end before) (Less-from_sorted (closeness target) near i (length near - 1) d sorted before (omega arith))) closer
      | inr at ↦ subst (λ (x : Contact). IsCloser target x c) (here at) closer
    ]
  where
    end : i < length near - 1 → get_or near (length near - 1) d ≡ last
    end before = get_or_default near (length near - 1) d last (omega arith) ∙ sym is

    here : length near - 1 ≤ i → last ≡ get_or near i d
    here at = let e : i ≡ length near - 1 = omega arith in is ∙ get_or_default near (length near - 1) last d (omega arith) ∙ ap (λ (n : ℕ). get_or near n d) (sym e)

-- one more behind k that are all closer changes nothing
pub closest_past : (target : Id) (k : ℕ) (S : List Contact) (c last : Contact) → IsStrictlySortedBy (closeness target) S → length S ≡ k → 0 < length S → last ≡ get_or S (length S - 1) last → IsCloser target last c → S ≡ k_closest target k (S ++ c ∷ [])
closest_past target k S c last sorted full some is closer =
    let all = all_closer target S c last sorted some is closer in
    closest_full target k S (c ∷ []) sorted full (λ i d lt. All-cons (λ (b : Contact). IsCloser target (get_or S i d) b) c [] (all i d lt) (All-nil (λ (b : Contact). IsCloser target (get_or S i d) b)))
