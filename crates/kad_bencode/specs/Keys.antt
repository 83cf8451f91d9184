-- Dictionaries as lists of pairs with ascending keys (BEP 3: keys are sorted as raw strings).
use Rattle.std.specs.Prelude.{◌≡◌, ℕ, cond, List, [], ◌∷◌, map, take, drop, length, ◌≤◌, ◌<◌, Option, Some, None, Result, Ok, Err}
use Rattle.std.specs.declared.cmp.Ordering.{Ordering}
use Rattle.std.specs.declared.cmp.Ordering.TheVariants.{Less, Equal, Greater}
use Rattle.std.specs.Ordering.{is_eq, nat_cmp, match_ordering}
use Rattle.std.specs.Cmp.Lexicographic.{slice_cmp}
use Rattle.std.specs.List.{AllByRecursion}
use Rattle.std.specs.List.Sorted.{IsStrictlySortedBy}
use Rattle.kad_bencode.specs.declared.entries.Pair.{Pair}

-- the order of keys: byte by byte
abbrev pub key_cmp : List ℕ → List ℕ → Ordering
key_cmp = slice_cmp nat_cmp

-- the keys, in the order of the pairs
abbrev pub keys_of : {V : Type 0} → List (Pair V) → List (List ℕ)
keys_of pairs = map (λ p. p.key) pairs

-- each key is below those after it
abbrev pub IsAscending : {V : Type 0} → List (Pair V) → Type 0
IsAscending pairs = IsStrictlySortedBy key_cmp (keys_of pairs)

-- a pair put in its place: it replaces the value of its key, or comes before the first pair with a greater key
abbrev pub put : {V : Type 0} → List (Pair V) → List ℕ → V → List (Pair V)
put [] key value = record { key = key; value = value } ∷ []
put (p ∷ ps) key value =
    match_ordering (key_cmp key p.key)
    (record { key = key; value = value } ∷ p ∷ ps)
    (record { key = key; value = value } ∷ ps)
    (p ∷ put ps key value)

-- the value of a key
abbrev pub value_of : {V : Type 0} → List (Pair V) → List ℕ → Option V
value_of [] key = None
value_of (p ∷ ps) key = cond (is_eq (key_cmp key p.key)) (Some p.value) (value_of ps key)

-- the pairs with other keys
abbrev pub without : {V : Type 0} → List (Pair V) → List ℕ → List (Pair V)
without [] key = []
without (p ∷ ps) key = cond (is_eq (key_cmp key p.key)) ps (p ∷ without ps key)

-- where a key is among ascending keys, or belongs
abbrev pub IsPlace : {V : Type 0} → List (Pair V) → List ℕ → Result ℕ ℕ → Type 0
IsPlace {V} pairs key (Ok i) = (i < length pairs) × AllByRecursion (λ p. key_cmp key p.key ≡ Greater) (take i pairs) × (p : Pair V) × (rest : List (Pair V)) × (drop i pairs ≡ p ∷ rest) × (key_cmp key p.key ≡ Equal)
IsPlace pairs key (Err i) = (i ≤ length pairs) × AllByRecursion (λ p. key_cmp key p.key ≡ Greater) (take i pairs) × AllByRecursion (λ p. key_cmp key p.key ≡ Less) (drop i pairs)
