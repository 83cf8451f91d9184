-- Drawn words: the key stream of ChaCha20 (RFC 8439's cipher, as `rand_chacha` makes it from a seed), on stream 0.
use Rattle.std.specs.Prelude.{ℕ, zero, suc, ◌+◌, List, [], ◌++◌}
use Rattle.std.specs.Int.{w32, to_le_bytes}
use Rattle.rand_chacha.specs.ChaCha.{word_at, key_of}

-- word i, counted from 0, of the generator of a 32-byte seed
unfoldable pub word : List ℕ → ℕ → ℕ
word seed i = word_at 10 (key_of seed) 0 i

-- the four bytes of a word, the lowest first
unfoldable pub word_bytes : ℕ → List ℕ
word_bytes w = to_le_bytes w32 w

-- the bytes of n words from place i on, one word after the other
unfoldable pub drawn_bytes : List ℕ → ℕ → ℕ → List ℕ
drawn_bytes seed i zero = []
drawn_bytes seed i (suc n) = word_bytes (word seed i) ++ drawn_bytes seed (i + 1) n
