-- Why bytes spell no value, and where it shows (this project's own rule; the forms are those of BEP 3).
use Rattle.std.specs.Prelude.{◌≡◌, ℕ, ◌+◌, ◌≤◌, ◌<◌, true, false, List, [], ◌∷◌, ◌++◌, map, length, take, drop, ℤ, ◌⊎◌, Result, Ok, Err}
use Rattle.std.specs.List.{concat}
use Rattle.kad_bencode.specs.Keys.{keys_of}
use Rattle.kad_bencode.specs.Spelling.{integer_text, string_text, pairs_text, text_of, IsText, is_i64, has_key}
use Rattle.kad_bencode.specs.declared.entries.Pair.{Pair}
use Rattle.kad_bencode.specs.declared.value.Value.{Value}
use Rattle.kad_bencode.specs.declared.value.Bad.{Bad}
use Rattle.kad_bencode.specs.declared.value.BenFault.{BenFault}
use Rattle.kad_bencode.specs.declared.value.BenFault.TheVariants as fault
use Rattle.kad_bencode.specs.declared.value.Bad.TheVariants.{NotBencode, Deep, NumberTooBig, KeyTwice, Trailing}

-- some text begins so
abbrev pub BeginsText : List ℕ → Type 0
BeginsText front = (rest : List ℕ) × IsText (front ++ rest)

-- A list that is open, with its values so far; or a dictionary that is open, with its pairs so far and the key whose
-- value comes next.
pub data Open : Type 0 where
  InList : List Value → Open
  InPair : List (Pair Value) → List ℕ → Open

-- the texts of pairs
abbrev pub pairs_of : List (Pair Value) → List (Pair (List ℕ))
pairs_of pairs = map (λ p. record { key = p.key; value = text_of p.value }) pairs

-- what was read of one that is open
abbrev pub front_of : Open → List ℕ
front_of (InList values) = 108 ∷ concat (map text_of values)
front_of (InPair pairs key) = 100 ∷ pairs_text (pairs_of pairs) ++ string_text key

-- what was read where these are open and a value comes next, the innermost first
abbrev pub fronts : List Open → List ℕ
fronts [] = []
fronts (o ∷ os) = fronts os ++ front_of o

-- the bytes go on so from a place
abbrev pub IsAt : List ℕ → ℕ → List ℕ → Type 0
IsAt bytes at text = (rest : List ℕ) × (drop at bytes ≡ text ++ rest)

-- the longest front that some text begins with ends here, and isn't a whole text
pub record IsNotBencode (bytes : List ℕ) (at : ℕ) : Type 0 where
  pub within : at ≤ length bytes
  pub begins : BeginsText (take at bytes)
  pub longest : at < length bytes → BeginsText (take (at + 1) bytes) → ⊥
  pub unfinished : IsText (take at bytes) → ⊥

-- a list or dictionary begins where a value may begin and 16 are open
pub record IsDeep (bytes : List ℕ) (at : ℕ) : Type 0 where
  pub opens : List Open
  pub front : take at bytes ≡ fronts opens
  pub many : length opens ≡ 16
  pub begins : IsAt bytes at (108 ∷ []) ⊎ IsAt bytes at (100 ∷ [])

-- an integer that isn't of 64 bits stands where a value may begin, and its last byte is at `seen`
pub record IsTooBig (bytes : List ℕ) (at : ℕ) (seen : ℕ) : Type 0 where
  pub opens : List Open
  pub front : take at bytes ≡ fronts opens
  pub number : ℤ
  pub stands : IsAt bytes at (integer_text number)
  pub last : at + length (integer_text number) ≡ seen + 1
  pub big : is_i64 number ≡ false

-- a key stands where a key may begin, its dictionary has it already, and its last byte is at `seen`
pub record IsTwice (bytes : List ℕ) (at : ℕ) (seen : ℕ) : Type 0 where
  pub opens : List Open
  pub pairs : List (Pair Value)
  pub front : take at bytes ≡ fronts opens ++ 100 ∷ pairs_text (pairs_of pairs)
  pub key : List ℕ
  pub stands : IsAt bytes at (string_text key)
  pub last : at + length (string_text key) ≡ seen + 1
  pub twice : has_key (keys_of pairs) key ≡ true

-- a whole text ends here, and more follows
pub record IsTrailing (bytes : List ℕ) (at : ℕ) : Type 0 where
  pub whole : IsText (take at bytes)
  pub more : at < length bytes

-- the fault is there, and it is seen at that byte
abbrev pub SeenAt : List ℕ → Bad → ℕ → Type 0
SeenAt bytes (NotBencode at) seen = IsNotBencode bytes at × (seen ≡ at)
SeenAt bytes (Deep at) seen = IsDeep bytes at × (seen ≡ at)
SeenAt bytes (NumberTooBig at) seen = IsTooBig bytes at seen
SeenAt bytes (KeyTwice at) seen = IsTwice bytes at seen
SeenAt bytes (Trailing at) seen = IsTrailing bytes at × (seen ≡ at)

-- no fault of the bytes is seen before this one
pub record IsFirstFault (bytes : List ℕ) (bad : Bad) : Type 0 where
  pub seen : ℕ
  pub here : SeenAt bytes bad seen
  pub first : (other : Bad) (at : ℕ) → SeenAt bytes other at → seen ≤ at

-- what is answered, unless memory ran out
abbrev pub Answers : Result Value BenFault → Result Value Bad → Type 0
Answers (Ok v) answer = answer ≡ Ok v
Answers (Err (fault.Bad bad)) answer = answer ≡ Err bad
Answers (Err fault.NoMemory) answer = Unit {0}
