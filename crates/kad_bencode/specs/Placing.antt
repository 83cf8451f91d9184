-- Where the pair of a key goes in the written form of a dictionary (BEP 3: keys are sorted as raw strings).
use Rattle.std.specs.Prelude.{◌≡◌, ◌≢◌, ℕ, List, [], ◌∷◌, ◌++◌, length, take, drop, None}
use Rattle.std.specs.List.{AllByRecursion}
use Rattle.std.specs.declared.cmp.Ordering.TheVariants.{Greater}
use Rattle.kad_bencode.specs.Keys.{key_cmp, put, value_of}
use Rattle.kad_bencode.specs.Spelling.{Fits, string_text, pairs_text, text_of}
use Rattle.kad_bencode.specs.Faults.{pairs_of}
use Rattle.kad_bencode.specs.declared.entries.Pair.{Pair}
use Rattle.kad_bencode.specs.declared.value.Value.{Value}
use Rattle.kad_bencode.specs.declared.value.Value.TheVariants.{Dict}

-- With its pair, whatever the value, the written form of a dictionary that hasn't the key is the text in front of the
-- place, the pair, and the text behind it.
abbrev pub IsPlaceFor : List ℕ → List ℕ → ℕ → Type 0
IsPlaceFor bytes key at = (pairs : List (Pair Value)) → bytes ≡ text_of (Dict pairs) → Fits 0 (Dict pairs)
    → value_of pairs key ≡ None → (value : Value)
    → text_of (Dict (put pairs key value)) ≡ take at bytes ++ ((string_text key ++ text_of value) ++ drop at bytes)

-- the first pair isn't below the key, if there is one
abbrev pub BeginsAbove : List ℕ → List (Pair Value) → Type 0
BeginsAbove key [] = Unit {0}
BeginsAbove key (p ∷ ps) = key_cmp key p.key ≢ Greater

-- the pairs below a key stand in front of the others, whose texts are so long
pub record IsParted (pairs : List (Pair Value)) (key : List ℕ) (size : ℕ) : Type 0 where
  pub below : List (Pair Value)
  pub others : List (Pair Value)
  pub all : pairs ≡ below ++ others
  pub are_below : AllByRecursion (λ p. key_cmp key p.key ≡ Greater) below
  pub above : BeginsAbove key others
  pub size_is : size ≡ length (pairs_text (pairs_of others))
