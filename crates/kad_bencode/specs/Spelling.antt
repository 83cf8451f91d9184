-- What bytes spell (BEP 3). A value stands here for a tree that a text names, limits aside: its integers may be any,
-- and its dictionaries may have their pairs in any order and a key twice.
use Rattle.std.specs.Prelude.{◌≡◌, ℕ, suc, ◌+◌, ◌≤◌, ◌^◌, max, Bool, true, false, not, cond, ◌&&◌, ◌||◌, List, [], ◌∷◌, ◌++◌, map, length, ℤ, pos, negsuc, nat_eq, nat_lt}
use Rattle.std.specs.List.{concat, flat_map}
use Rattle.std.specs.Ordering.{is_eq}
use Rattle.std.specs.Int.Digits.{digits_of}
use Rattle.kad_bencode.specs.Keys.{key_cmp, keys_of, put}
use Rattle.kad_bencode.specs.declared.entries.Pair.{Pair}
use Rattle.kad_bencode.specs.declared.value.Value.{Value}
use Rattle.kad_bencode.specs.declared.value.Value.TheOpen as layer
use Rattle.kad_bencode.specs.declared.value.Value.TheOpen.{Value-F}
use Rattle.kad_bencode.specs.declared.value.Value.TheViews.{roll-Value}
use Rattle.kad_bencode.specs.declared.value.Value.TheFolds.{fold-Value}

-- ---- texts

-- a number in base ten, with no leading zero
abbrev pub numeral : ℕ → List ℕ
numeral n = cond (nat_eq n 0) (48 ∷ []) (map (λ d. 48 + d) (digits_of 10 n))

-- i, the number, e
abbrev pub integer_text : ℤ → List ℕ
integer_text (pos n) = 105 ∷ numeral n ++ 101 ∷ []
integer_text (negsuc n) = 105 ∷ 45 ∷ numeral (suc n) ++ 101 ∷ []

-- a length, a colon, that many bytes
abbrev pub string_text : List ℕ → List ℕ
string_text bytes = numeral (length bytes) ++ 58 ∷ bytes

-- the texts of keys and values, one after another
abbrev pub pairs_text : List (Pair (List ℕ)) → List ℕ
pairs_text pairs = flat_map (λ p. string_text p.key ++ p.value) pairs

-- one layer, with the text of each inner value in its place
abbrev pub text_step : Value-F (List ℕ) → List ℕ
text_step (layer.Int n) = integer_text n
text_step (layer.Text bytes) = string_text bytes
text_step (layer.List texts) = 108 ∷ concat texts ++ 101 ∷ []
text_step (layer.Dict pairs) = 100 ∷ pairs_text pairs ++ 101 ∷ []

-- the text that names a value, its pairs in the order that it has them
abbrev pub text_of : Value → List ℕ
text_of = fold-Value (List ℕ) text_step

-- a text of one of the four forms, limits aside
abbrev pub IsText : List ℕ → Type 0
IsText bytes = (tree : Value) × (bytes ≡ text_of tree)

-- ---- limits

-- the greatest of some numbers, 0 where there is none
abbrev pub greatest : List ℕ → ℕ
greatest [] = 0
greatest (n ∷ ns) = max n (greatest ns)

-- the values of the pairs
abbrev pub values_of : {V : Type 0} → List (Pair V) → List V
values_of pairs = map (λ p. p.value) pairs

-- a list or dictionary is open around the deepest of its values
abbrev pub depth_step : Value-F ℕ → ℕ
depth_step (layer.Int n) = 0
depth_step (layer.Text bytes) = 0
depth_step (layer.List depths) = suc (greatest depths)
depth_step (layer.Dict pairs) = suc (greatest (values_of pairs))

-- how many lists and dictionaries are open at once, at most
abbrev pub depth_of : Value → ℕ
depth_of = fold-Value ℕ depth_step

-- an integer of 64 bits with a sign
abbrev pub is_i64 : ℤ → Bool
is_i64 (pos n) = nat_lt n (2 ^ 63)
is_i64 (negsuc n) = nat_lt n (2 ^ 63)

-- each is true
abbrev pub all_true : List Bool → Bool
all_true [] = true
all_true (b ∷ bs) = b && all_true bs

-- the key is among these
abbrev pub has_key : List (List ℕ) → List ℕ → Bool
has_key [] key = false
has_key (k ∷ ks) key = is_eq (key_cmp key k) || has_key ks key

-- no key twice
abbrev pub each_once : List (List ℕ) → Bool
each_once [] = true
each_once (k ∷ ks) = not (has_key ks k) && each_once ks

-- one layer is plain: an integer of 64 bits, no key twice, and each inner value plain
abbrev pub plain_step : Value-F Bool → Bool
plain_step (layer.Int n) = is_i64 n
plain_step (layer.Text bytes) = true
plain_step (layer.List all) = all_true all
plain_step (layer.Dict pairs) = each_once (keys_of pairs) && all_true (values_of pairs)

-- each integer is of 64 bits, and no dictionary has a key twice
abbrev pub is_plain : Value → Bool
is_plain = fold-Value Bool plain_step

-- within the limits, where that many lists and dictionaries are open around it
pub record Fits (around : ℕ) (tree : Value) : Type 0 where
  pub depth : around + depth_of tree ≤ 16
  pub plain : is_plain tree ≡ true

-- ---- values

-- pairs by ascending keys, put in one after another
abbrev pub put_all : {V : Type 0} → List (Pair V) → List (Pair V) → List (Pair V)
put_all filed [] = filed
put_all filed (p ∷ ps) = put_all (put filed p.key p.value) ps

-- one layer, a dictionary with its pairs by ascending keys; of a key that stands twice the last one counts
abbrev pub in_order_step : Value-F Value → Value
in_order_step (layer.Int n) = roll-Value (layer.Int n)
in_order_step (layer.Text bytes) = roll-Value (layer.Text bytes)
in_order_step (layer.List values) = roll-Value (layer.List values)
in_order_step (layer.Dict pairs) = roll-Value (layer.Dict (put_all [] pairs))

-- the value with each dictionary's pairs by ascending keys
abbrev pub in_order : Value → Value
in_order = fold-Value Value in_order_step

-- the bytes are a text within the limits, and it names the value, whose pairs are by ascending keys
pub record Spells (bytes : List ℕ) (value : Value) : Type 0 where
  pub tree : Value
  pub text : bytes ≡ text_of tree
  pub fits : Fits 0 tree
  pub names : value ≡ in_order tree
