-- The index by age: a mark for each value, its moment and its key, in order of the moments and then of the keys.
use Rattle.std.specs.Prelude.{◌≡◌, ℕ, ◌==◌, Bool, true, false, List, Option, Some, None}
use Rattle.std.specs.List.{list_any}
use Rattle.std.specs.List.Sorted.{IsStrictlySortedBy}
use Rattle.std.specs.Map.{keys_of, lookup}
use Rattle.std.specs.Ordering.{ordering_then, nat_cmp}
use Rattle.std.specs.BTreeMap.{is_at}
use Rattle.std.specs.declared.cmp.Ordering.{Ordering}

-- the order of marks
abbrev pub mark_cmp : {K : Type 0} → (K → K → Ordering) → ℕ × K → ℕ × K → Ordering
mark_cmp cmp a b = ordering_then (nat_cmp a.0 b.0) (cmp a.1 b.1)

-- whether a key's value has the moment
abbrev pub has_moment : {V : Type 0} → (V → ℕ) → ℕ → Option V → Bool
has_moment moment m None = false
has_moment moment m (Some v) = moment v == m

-- there is a mark of a moment and a key exactly if the key's value has the moment
abbrev pub AreMarked : {K V : Type 0} → (K → K → Ordering) → (V → ℕ) → List (K × V) → List (ℕ × K) → Type 0
AreMarked {K} cmp moment held marks = (m : ℕ) (k : K) → list_any (is_at (mark_cmp cmp (m, k))) marks ≡ has_moment moment m (lookup (is_at (cmp k)) held)

-- what is held is in order, and where the index is whole each value is marked
pub record IsIndexed {K V : Type 0} (cmp : K → K → Ordering) (moment : V → ℕ) (held : List (K × V)) (marks : List (ℕ × K)) (whole : Bool) : Type 0 where
  pub sorted : IsStrictlySortedBy cmp (keys_of held)
  pub marked : whole ≡ true → AreMarked cmp moment held marks
