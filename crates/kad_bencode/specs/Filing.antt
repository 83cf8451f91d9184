-- Keys by the places where they stand; no public contract speaks of them.
use Rattle.std.specs.Prelude.{◌≡◌, ℕ, ◌-◌, ◌<◌, ◌≤◌, true, List, [], length, take, drop, get_or}
use Rattle.std.specs.declared.cmp.Ordering.TheVariants.{Greater}
use Rattle.kad_bencode.specs.Keys.{key_cmp}
use Rattle.kad_bencode.specs.Spelling.{string_text, has_key}
use Rattle.kad_bencode.specs.Faults.{Open, IsAt}
use Rattle.kad_bencode.specs.Machine.{AsKey, Keyless, Reached, ReadsString, FitsPairs}
use Rattle.kad_bencode.specs.declared.entries.Pair.{Pair}
use Rattle.kad_bencode.specs.declared.value.Value.{Value}

-- the places of one dictionary, which are noted behind those of the dictionaries around it
abbrev pub own : ℕ → ℕ → List ℕ → List ℕ
own base top places = take (top - base) (drop base places)

-- each of the keys stands at one of the places
abbrev pub Listed : List ℕ → List ℕ → List (List ℕ) → Type 0
Listed bytes places keys = (key : List ℕ) → has_key keys key ≡ true
    → (i : ℕ) × (i < length places) × IsAt bytes (get_or places i 0) (string_text key)

-- no key stands at two of the places
abbrev pub Differ : List ℕ → List ℕ → Type 0
Differ bytes places = (i j : ℕ) (key : List ℕ) → i < j → j < length places
    → IsAt bytes (get_or places i 0) (string_text key)
    → IsAt bytes (get_or places j 0) (string_text key) → ⊥

-- the key stands at none of the places
abbrev pub IsNowhere : List ℕ → List ℕ → List ℕ → Type 0
IsNowhere bytes places key = (i : ℕ) → i < length places → IsAt bytes (get_or places i 0) (string_text key) → ⊥

-- the keys at the places, taken in an order, ascend: there are keys each of which is above those before it, and is the one
-- that stands at its place, if one does
pub record Ascends (bytes places order : List ℕ) : Type 0 where
  pub shown : List (List ℕ)
  pub above : (i j : ℕ) → i < j → j < length order
      → key_cmp (get_or shown j []) (get_or shown i []) ≡ Greater
  pub shows : (j : ℕ) (key : List ℕ) → j < length order → get_or order j 0 < length places
      → IsAt bytes (get_or places (get_or order j 0) 0) (string_text key)
      → get_or shown j [] ≡ key

-- each of so many numbers is in the order
abbrev pub HasAll : List ℕ → ℕ → Type 0
HasAll order count = (i : ℕ) → i < count → (j : ℕ) × (j < length order) × (get_or order j 0 ≡ i)

-- a key of the innermost dictionary was read at a place, behind pairs whose keys differ
pub record IsKey (bytes : List ℕ) (at : ℕ) (os : List Open) : Type 0 where
  pub pairs : List (Pair Value)
  pub reached : Reached bytes at (Keyless os pairs)
  pub fits : FitsPairs os pairs
  pub within : at ≤ length bytes
  pub key : List ℕ
  pub next : ℕ
  pub reads : ReadsString bytes at (AsKey os pairs) key next

-- at each of the places such a key was read, if those in front of it differ
abbrev pub AreKeys : List ℕ → List ℕ → List Open → Type 0
AreKeys bytes places os = (i : ℕ) → i < length places
    → Differ bytes (take i places) → IsKey bytes (get_or places i 0) os

-- the places are those where these keys were read
pub record Noted (bytes places : List ℕ) (os : List Open) (keys : List (List ℕ)) : Type 0 where
  pub listed : Listed bytes places keys
  pub read : AreKeys bytes places os
