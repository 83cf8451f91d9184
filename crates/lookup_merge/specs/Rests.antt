-- What is left of lists from a place on in each.
use Rattle.std.specs.Prelude.{ℕ, suc, List, [], ◌∷◌, Option, Some, None, Bool, false, cond, drop, slice_get}
use Rattle.std.specs.Ordering.{is_lt, is_eq}
use Rattle.std.specs.declared.cmp.Ordering.{Ordering}

-- each list from its place on
abbrev pub rests : {K : Type 0} → List (List K) → List ℕ → List (List K)
rests [] places = []
rests (list ∷ lists) [] = []
rests (list ∷ lists) (place ∷ places) = drop place list ∷ rests lists places

-- the first of a list, if it has one
abbrev pub first : {K : Type 0} → List K → Option K
first [] = None
first (x ∷ xs) = Some x

-- the lower one, if both are there
abbrev pub nearer_of : {K : Type 0} → (K → K → Ordering) → Option K → Option K → Option K
nearer_of R best None = best
nearer_of R None (Some x) = Some x
nearer_of R (Some b) (Some x) = cond (is_lt (R x b)) (Some x) (Some b)

-- the lowest of the first ones
abbrev pub nearest_of : {K : Type 0} → (K → K → Ordering) → Option K → List (List K) → Option K
nearest_of R best [] = best
nearest_of R best (list ∷ lists) = nearest_of R (nearer_of R best (first list)) lists

-- the list without c in front
abbrev pub after : {K : Type 0} → (K → K → Ordering) → K → List K → List K
after R c [] = []
after R c (x ∷ xs) = cond (is_eq (R x c)) xs (x ∷ xs)

-- whether what stands there is c
abbrev pub stands : {K : Type 0} → (K → K → Ordering) → K → Option K → Bool
stands R c None = false
stands R c (Some x) = is_eq (R x c)

-- the next place, where c stands at this one
abbrev pub place_after : {K : Type 0} → (K → K → Ordering) → K → List K → ℕ → ℕ
place_after R c list place = cond (stands R c (slice_get list place)) (suc place) place
