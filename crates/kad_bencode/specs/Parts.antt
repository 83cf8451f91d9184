-- The parts of a value, by its kind.
use Rattle.std.specs.Prelude.{ℕ, List, Option, Some, None, ℤ}
use Rattle.kad_bencode.specs.Keys.{value_of}
use Rattle.kad_bencode.specs.declared.entries.Pair.{Pair}
use Rattle.kad_bencode.specs.declared.value.Value.{Value}
use Rattle.kad_bencode.specs.declared.value.Value.TheOpen as layer
use Rattle.kad_bencode.specs.declared.value.Value.TheOpen.{Value-F}
use Rattle.kad_bencode.specs.declared.value.Value.TheViews.{out-Value}

-- a dictionary's value of a key, by the outermost form of a value; the other forms of BEP 3 have none
abbrev pub member_in : Value-F Value → List ℕ → Option Value
member_in (layer.Int n) key = None
member_in (layer.Text bytes) key = None
member_in (layer.List values) key = None
member_in (layer.Dict pairs) key = value_of pairs key

-- a dictionary's value of a key
abbrev pub member_of : Value → List ℕ → Option Value
member_of value key = member_in (out-Value value) key

-- the bytes of a string, in the same way
abbrev pub bytes_in : Value-F Value → Option (List ℕ)
bytes_in (layer.Int n) = None
bytes_in (layer.Text bytes) = Some bytes
bytes_in (layer.List values) = None
bytes_in (layer.Dict pairs) = None

-- a string's bytes
abbrev pub bytes_of : Value → Option (List ℕ)
bytes_of value = bytes_in (out-Value value)

-- an integer, in the same way
abbrev pub integer_in : Value-F Value → Option ℤ
integer_in (layer.Int n) = Some n
integer_in (layer.Text bytes) = None
integer_in (layer.List values) = None
integer_in (layer.Dict pairs) = None

-- an integer
abbrev pub integer_of : Value → Option ℤ
integer_of value = integer_in (out-Value value)

-- the values of a list, in the same way
abbrev pub list_in : Value-F Value → Option (List Value)
list_in (layer.Int n) = None
list_in (layer.Text bytes) = None
list_in (layer.List values) = Some values
list_in (layer.Dict pairs) = None

-- a list's values
abbrev pub list_of : Value → Option (List Value)
list_of value = list_in (out-Value value)

-- the pairs of a dictionary, in the same way
abbrev pub dict_in : Value-F Value → Option (List (Pair Value))
dict_in (layer.Int n) = None
dict_in (layer.Text bytes) = None
dict_in (layer.List values) = None
dict_in (layer.Dict pairs) = Some pairs

-- a dictionary's pairs
abbrev pub dict_of : Value → Option (List (Pair Value))
dict_of value = dict_in (out-Value value)
