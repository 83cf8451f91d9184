-- Minting: which key and which value X the tries of a seed come to (S/Kademlia, 2007, section 4.1).
use Rattle.std.specs.Prelude.{◌≡◌, ℕ, ◌*◌, ◌<◌, List, ◌++◌, replicate}
use Rattle.std.specs.Int.{w32, to_be_bytes}
use Rattle.kad_base.specs.Bits.{xor_bytes, BeginsWithZeros}
use Rattle.kad_base.specs.Puzzles.{hash}
use Rattle.kad_base.specs.Words.{drawn_bytes}

-- key i of a seed: the bytes of its words 8i to 8i + 7
unfoldable pub key_at : List ℕ → ℕ → List ℕ
key_at seed i = drawn_bytes seed (8 * i) 8

-- the value X of a count below 2^32: 20 bytes, the highest first
unfoldable pub value_at : ℕ → List ℕ
value_at n = replicate 16 0 ++ to_be_bytes w32 n

-- the fact holds of none of the first numbers
abbrev pub HoldsOfNone : ℕ → (ℕ → Type 0) → Type 0
HoldsOfNone limit P = (n : ℕ) → n < limit → ¬ P n

-- the identifier of key i solves the static puzzle
abbrev pub KeySolves : List ℕ → ℕ → ℕ → Type 0
KeySolves seed c1 i = BeginsWithZeros c1 (hash (hash (key_at seed i)))

-- value n solves the dynamic puzzle of the identifier
abbrev pub ValueSolves : List ℕ → ℕ → ℕ → Type 0
ValueSolves id c2 n = BeginsWithZeros c2 (hash (xor_bytes id (value_at n)))

-- the first key whose identifier solves the static puzzle
pub record IsFirstKey (seed : List ℕ) (c1 tries : ℕ) (key : List ℕ) : Type 0 where
  pub number : ℕ
  pub is_key : key ≡ key_at seed number
  pub in_tries : number < tries
  pub solves : KeySolves seed c1 number
  pub none_before : HoldsOfNone number (KeySolves seed c1)

-- the first value that solves the dynamic puzzle of the identifier
pub record IsFirstValue (id : List ℕ) (c2 tries : ℕ) (x : List ℕ) : Type 0 where
  pub number : ℕ
  pub is_value : x ≡ value_at number
  pub in_tries : number < tries
  pub solves : ValueSolves id c2 number
  pub none_before : HoldsOfNone number (ValueSolves id c2)

-- none of the first keys solves the static puzzle
abbrev pub HasNoKey : List ℕ → ℕ → ℕ → Type 0
HasNoKey seed c1 tries = HoldsOfNone tries (KeySolves seed c1)

-- none of the first values solves the dynamic puzzle of the identifier
abbrev pub HasNoFirstValue : List ℕ → ℕ → ℕ → Type 0
HasNoFirstValue id c2 tries = HoldsOfNone tries (ValueSolves id c2)

-- there is a first key, and no value for its identifier
pub record HasNoValue (seed : List ℕ) (c1 c2 tries : ℕ) : Type 0 where
  pub key : List ℕ
  pub first_key : IsFirstKey seed c1 tries key
  pub no_value : HasNoFirstValue (hash key) c2 tries
