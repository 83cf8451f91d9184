-- Bytes that are the written form of a value, and that value in two lists.
use Rattle.std.specs.Prelude.{◌≡◌, ℕ, List, [], ◌∷◌, ◌++◌}
use Rattle.kad_bencode.specs.Spelling.{Spells, text_of}
use Rattle.kad_bencode.specs.declared.value.Value.{Value}

-- the bytes spell a value, and are its written form
abbrev pub IsForm : List ℕ → Type 0
IsForm bytes = (v : Value) × Spells bytes v × (text_of v ≡ bytes)

-- the text of a list, of one list, of the value whose text these bytes are
abbrev pub within_lists : List ℕ → List ℕ
within_lists bytes = 108 ∷ 108 ∷ (bytes ++ 101 ∷ 101 ∷ [])
