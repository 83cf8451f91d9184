-- The k closest of all paths are the k closest of those of each.
use Rattle.std.proofs.Common.{◌≡◌, ℕ, zero, suc, ◌+◌, ◌<◌, List, [], ◌∷◌, ◌++◌, length, take, true, not, get_or, refl, sym, ap, subst, ◌∙◌, inl, inr, arith}
use Rattle.std.specs.Prelude.{map}
use Rattle.std.specs.List.{All, flat_map}
use Rattle.std.specs.List.Sorted.{IsStrictlySortedBy}
use Rattle.std.proofs.lemmas.List.Elements.{All-nil, All-cons}
use Rattle.std.proofs.lemmas.Bool.{or_cases, and_parts, and_from, not-true}
use Rattle.kad_base.specs.declared.types.Contact.{Contact}
use Rattle.kad_base.specs.Contacts.{among, without}
use Rattle.kad_base.proofs.Contacts.{among_more}
use Rattle.kad_distance.specs.Order.{closeness}
use Rattle.kad_distance.specs.KClosest.{k_closest}
use Rattle.kad_distance.proofs.Chosen.{closest_rises, closest_after, closest_joined, closest_same}
use Rattle.claim_book.specs.declared.types.Setting.{Setting}
use Rattle.claim_book.specs.declared.types.Entry.{Entry}
use Rattle.claim_book.specs.declared.path.Path.{Path}
use Rattle.claim_book.specs.Journal.{took, failed, alive}
use Rattle.claim_book.specs.Legal.{Legal}
use Rattle.claim_book.specs.Result.{result_of}
use Rattle.claim_book.specs.Index.{IsPaths}
use Rattle.claim_book.proofs.Among.{among_without, in_list, from_list}
use Rattle.claim_book.proofs.Claims.{path_took, among_left, among_right, own_on_path, own_alive, alive_on_path}
use Rattle.claim_book.proofs.Ends.{own_by_some, path_below}
use Rattle.claim_book.proofs.Reading.{near_k}

-- the contacts of n paths from the q-th on that are not lost
abbrev alives : List Entry → ℕ → ℕ → List Contact
alives J q zero = []
alives J q (suc n) = alive q J ++ alives J (q + 1) n

abbrev lists : Setting → List Path → List (List Contact)
lists s xs = map (λ x. take s.k x.near.items) xs

abbrev joined : List (List Contact) → List Contact
joined ls = flat_map (λ l. l) ls

near_joined : (s : Setting) (J : List Entry) (q : ℕ) (xs : List Path) → ((i : ℕ) (d : Path) → i < length xs → take s.k (get_or xs i d).near.items ≡ k_closest s.target s.k (alive (q + i) J)) → k_closest s.target s.k (joined (lists s xs)) ≡ k_closest s.target s.k (alives J q (length xs))
near_joined s J q [] h = refl
near_joined s J q (x ∷ xs) h =
    let t = s.target in
    let k = s.k in
    let A = alive q J in
    let L = joined (lists s xs) in
    let M = alives J (q + 1) (length xs) in
    let here : take k x.near.items ≡ k_closest t k A = h 0 x (omega arith) ∙ ap (λ n. k_closest t k (alive n J)) (let z : q + 0 ≡ q = omega arith in z) in
    let rest = near_joined s J (q + 1) xs (λ i d lt. h (suc i) d (omega arith) ∙ ap (λ n. k_closest t k (alive n J)) (let z : q + suc i ≡ q + 1 + i = omega arith in z)) in
    ap (λ l. k_closest t k (l ++ L)) here ∙ sym (closest_after t k A L) ∙ closest_joined t k A L ∙ ap (λ l. k_closest t k (k_closest t k A ++ l)) rest ∙ sym (closest_joined t k A M)

alives_from : (J : List Entry) (q n : ℕ) (c : Contact) → among (alives J q n) c ≡ true → (p : ℕ) × (among (alive p J) c ≡ true)
alives_from J q zero c h = absurd cc
alives_from J q (suc n) c h =
    elim (or_cases (among (alive q J) c) (among (alives J (q + 1) n) c) (sym (among_more (alive q J) (alives J (q + 1) n) c) ∙ h)) [
      | inl a ↦ (q, a)
      | inr b ↦ alives_from J (q + 1) n c b
    ]

alives_in : (J : List Entry) (q n i : ℕ) (c : Contact) → i < n → among (alive (q + i) J) c ≡ true → among (alives J q n) c ≡ true
alives_in J q zero i c lt h = absurd (omega arith)
alives_in J q (suc n) zero c lt h = among_left (alive q J) (alives J (q + 1) n) c (ap (λ m. among (alive m J) c) (let z : q ≡ q + 0 = omega arith in z) ∙ h)
alives_in J q (suc n) (suc i) c lt h = among_right (alive q J) (alives J (q + 1) n) c (alives_in J (q + 1) n i c (omega arith) (ap (λ m. among (alive m J) c) (let z : q + 1 + i ≡ q + suc i = omega arith in z) ∙ h))

-- all that is alive on the lookup's paths is all that was taken and not lost
alives_all : (s : Setting) (J : List Entry) (c : Contact) → 0 < s.paths → Legal s J → among (alives J 0 s.paths) c ≡ true → among (without (took J) (failed J)) c ≡ true
alives_all s J c z l h =
    let at = alives_from J 0 s.paths c h in
    let on = alive_on_path at.0 J c at.1 in
    among_without (took J) (failed J) c ∙ and_from (among (took J) c) (not (among (failed J) c)) (path_took at.0 J c on.0) (ap not on.1)

all_alives : (s : Setting) (J : List Entry) (c : Contact) → 0 < s.paths → Legal s J → among (without (took J) (failed J)) c ≡ true → among (alives J 0 s.paths) c ≡ true
all_alives s J c z l h =
    let parts = and_parts (among (took J) c) (not (among (failed J) c)) (sym (among_without (took J) (failed J) c) ∙ h) in
    let by = own_by_some s J c l parts.0 in
    let lt = path_below s J by.0 c z l (own_on_path by.0 J c by.1).0 in
    alives_in J 0 s.paths by.0 c lt (ap (λ m. among (alive m J) c) (let z : 0 + by.0 ≡ by.0 = omega arith in z) ∙ own_alive by.0 J c by.1 (not-true (among (failed J) c) parts.1))

pub merged_is : (s : Setting) (J : List Entry) (xs : List Path) → 0 < s.paths → Legal s J → IsPaths s J xs → k_closest s.target s.k (flat_map (λ l. l) (map (λ x. take s.k x.near.items) xs)) ≡ result_of s J
unfolding result_of
merged_is s J xs z l h =
    near_joined s J 0 xs (λ i d lt. near_k s J i (get_or xs i d) (h.each i d lt) ∙ ap (λ n. k_closest s.target s.k (alive n J)) (let y : i ≡ 0 + i = omega arith in y))
    ∙ ap (λ n. k_closest s.target s.k (alives J 0 n)) h.enough
    ∙ closest_same s.target s.k (alives J 0 s.paths) (without (took J) (failed J)) (λ c. (
      λ i. in_list (without (took J) (failed J)) c (alives_all s J c z l (from_list (alives J 0 s.paths) c i)),
      λ i. in_list (alives J 0 s.paths) c (all_alives s J c z l (from_list (without (took J) (failed J)) c i)),
    ))

-- each of the lists is in order
pub lists_rise : (s : Setting) (J : List Entry) (xs : List Path) → IsPaths s J xs → All (IsStrictlySortedBy (closeness s.target)) (map (λ x. take s.k x.near.items) xs)
lists_rise s J xs h = rise s J 0 xs (λ i d lt. near_k s J i (get_or xs i d) (h.each i d lt) ∙ ap (λ n. k_closest s.target s.k (alive n J)) (let y : i ≡ 0 + i = omega arith in y))
  where
    rise : (s : Setting) (J : List Entry) (q : ℕ) (xs : List Path) → ((i : ℕ) (d : Path) → i < length xs → take s.k (get_or xs i d).near.items ≡ k_closest s.target s.k (alive (q + i) J)) → All (IsStrictlySortedBy (closeness s.target)) (map (λ x. take s.k x.near.items) xs)
    rise s J q [] h = All-nil (IsStrictlySortedBy (closeness s.target))
    rise s J q (x ∷ xs) h = All-cons (IsStrictlySortedBy (closeness s.target)) (take s.k x.near.items) (map (λ y. take s.k y.near.items) xs)
        (subst (IsStrictlySortedBy (closeness s.target)) (sym (h 0 x (omega arith))) (closest_rises s.target s.k (alive (q + 0) J)))
        (rise s J (q + 1) xs (λ i d lt. h (suc i) d (omega arith) ∙ ap (λ n. k_closest s.target s.k (alive n J)) (let z : q + suc i ≡ q + 1 + i = omega arith in z)))
