-- What writing leaves.
use Rattle.std.specs.Prelude.{◌≡◌, ℕ, ◌+◌, ◌-◌, ◌^◌, ◌≤◌, min, List, ◌∷◌, ◌++◌, length, take}
use Rattle.kad_bencode.specs.Spelling.{pairs_text}
use Rattle.kad_bencode.specs.Faults.{pairs_of}
use Rattle.kad_bencode.specs.declared.entries.Pair.{Pair}
use Rattle.kad_bencode.specs.declared.value.Value.{Value}

-- the greatest place that there is
abbrev pub last_place : ℕ
last_place = 2 ^ 64 - 1

-- A text was put at a place of a buffer: the place behind it, also where it has no room; with room, the text stands
-- behind what was in front of it.
pub record Puts (old new : List ℕ) (at : ℕ) (text : List ℕ) (next : ℕ) : Type 0 where
  pub place : next ≡ min (at + length text) last_place
  pub text_is : next ≤ length old → take next new ≡ take at old ++ text
  pub room : length new ≡ length old

-- the texts of pairs were put
abbrev pub PutsPairs : List ℕ → List ℕ → ℕ → List (Pair Value) → ℕ → Type 0
PutsPairs old new at pairs next = Puts old new at (pairs_text (pairs_of pairs)) next

-- a dictionary was opened, and the texts of its pairs were put
abbrev pub PutsOpen : List ℕ → List ℕ → ℕ → List (Pair Value) → ℕ → Type 0
PutsOpen old new at pairs next = Puts old new at (100 ∷ pairs_text (pairs_of pairs)) next
