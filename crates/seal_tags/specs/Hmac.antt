-- HMAC (RFC 2104) with SHA-1 (FIPS 180-4) as the hash H, whose blocks have B = 64 bytes.
use Rattle.std.specs.Prelude.{ℕ, ◌-◌, nat_lt, List, ◌++◌, length, map, replicate, bit_xor, if◌then◌else◌}
use Rattle.kad_base.specs.Puzzles.{hash}

-- B, the length of a block in bytes
abbrev pub block_length : ℕ
block_length = 64

-- the byte that ipad repeats
abbrev pub inner_pad : ℕ
inner_pad = 0x36

-- the byte that opad repeats
abbrev pub outer_pad : ℕ
outer_pad = 0x5c

-- zeros appended to the end, up to B bytes
abbrev pub filled : List ℕ → List ℕ
filled key = key ++ replicate (block_length - length key) 0

-- the key K as a string of B bytes: one of more than B bytes is first hashed
abbrev pub key_block : List ℕ → List ℕ
key_block key = if nat_lt block_length (length key) then filled (hash key) else filled key

-- the string XOR the byte, repeated
abbrev pub mixed : List ℕ → ℕ → List ℕ
mixed block pad = map (λ b. bit_xor b pad) block

-- H(K XOR opad, H(K XOR ipad, text))
unfoldable pub hmac : List ℕ → List ℕ → List ℕ
hmac key text = hash (mixed (key_block key) outer_pad ++ hash (mixed (key_block key) inner_pad ++ text))
