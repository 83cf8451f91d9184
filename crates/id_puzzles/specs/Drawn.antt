-- What contracts see of a source of drawn words.
use Rattle.std.specs.Prelude.{◌≡◌, ℕ, List}
use Rattle.rand_chacha.specs.ChaCha.{ChaCha, key_of, seed_of}

-- the seed, and the place of the word that comes next
pub record WordsState : Type 0 where
  pub seed : List ℕ
  pub place : ℕ

-- as a generator keeps them
unfoldable pub drawn_by : ChaCha → WordsState
drawn_by g = record { seed = seed_of g.key; place = g.word_pos }

-- the generator was made from a seed, and is on stream 0
pub record IsSeeded (g : ChaCha) : Type 0 where
  pub stream : g.stream ≡ 0
  pub key : key_of (seed_of g.key) ≡ g.key
