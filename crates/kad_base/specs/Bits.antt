-- Bytes as unsigned numbers, the highest byte first.
use Rattle.std.specs.Prelude.{ℕ, ◌+◌, ◌-◌, ◌*◌, ◌^◌, ◌<◌, List, [], ◌∷◌, length, bit_xor}

-- the bytes of x XOR y (Kademlia, 2002, section 2.1), for x as long as y
abbrev pub xor_bytes : List ℕ → List ℕ → List ℕ
xor_bytes x [] = []
xor_bytes [] (b ∷ y) = b ∷ y
xor_bytes (a ∷ x) (b ∷ y) = bit_xor a b ∷ xor_bytes x y

-- the number that the bytes spell, the highest first
abbrev pub number_of : List ℕ → ℕ
number_of [] = 0
number_of (b ∷ bytes) = b * 256 ^ length bytes + number_of bytes

-- the bytes begin with that many zero bits: as a number they have as many fewer bits
unfoldable pub BeginsWithZeros : ℕ → List ℕ → Type 0
BeginsWithZeros bits bytes = number_of bytes < 2 ^ (8 * length bytes - bits)
