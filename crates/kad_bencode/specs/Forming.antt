-- The pairs of a dictionary that are sorted by their keys (BEP 3); no public contract speaks of them.
use Rattle.std.specs.Prelude.{◌≡◌, ℕ, Bool, List, [], ◌∷◌, ◌++◌, length, map}
use Rattle.std.specs.Ordering.{is_lt}
use Rattle.kad_bencode.specs.Keys.{key_cmp}
use Rattle.kad_bencode.specs.Spelling.{pairs_text, string_text, text_of}
use Rattle.kad_bencode.specs.Faults.{pairs_of}
use Rattle.kad_bencode.specs.declared.entries.Pair.{Pair}
use Rattle.kad_bencode.specs.declared.value.Value.{Value}
use Rattle.kad_bencode.specs.declared.form.Row.{Row}

-- the key and the text of the value
abbrev pub pair_of : Row → Pair (List ℕ)
pair_of row = record { key = row.key.now; value = row.text.now }

-- the texts of both
abbrev pub row_text : Row → List ℕ
row_text row = string_text row.key.now ++ row.text.now

-- the first has the lower key
abbrev pub comes_before : Row → Row → Bool
comes_before a b = is_lt (key_cmp a.key.now b.key.now)

-- the rows have the keys of these pairs and the texts of their values
abbrev pub AreRows : List Row → List (Pair Value) → Type 0
AreRows rows pairs = map pair_of rows ≡ pairs_of pairs

-- how long the text of a pair's value is
abbrev pub value_size : Pair Value → ℕ
value_size p = length (text_of p.value)

-- the values of these pairs have texts of these sizes
abbrev pub AreSizes : List ℕ → List (Pair Value) → Type 0
AreSizes sizes pairs = sizes ≡ map value_size pairs

-- a dictionary with these pairs, as they stand
abbrev pub dict_text : List (Pair Value) → List ℕ
dict_text pairs = 100 ∷ pairs_text (pairs_of pairs) ++ 101 ∷ []
