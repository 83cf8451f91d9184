-- Tokens, by which whoever announces a peer shows that it was asked for from its address before (BEP 5). Their numbers are
-- this project's own, but the five minutes of a secret, which are BEP 5's.
use Rattle.std.specs.Prelude.{◌≡◌, ℕ, ◌+◌, ◌-◌, ◌*◌, ◌/◌, ◌^◌, ◌<◌, ◌⊎◌, Bool, cond, nat_lt, List, ◌++◌, take, replicate}
use Rattle.kad_base.specs.Puzzles.{hash}
use Rattle.kad_base.specs.Words.{drawn_bytes}

-- what contracts see of tokens: the seed of their secrets, the moment that their epochs count from, and whether lists are
-- drawn by these secrets too
pub record TokensState : Type 0 where
  pub seed : List ℕ
  pub began : ℕ
  pub draws : Bool

-- the tokens of a node that holds at most so many of one host: lists are drawn where there is such a limit (0: there is none)
abbrev pub tokens_by : List ℕ → ℕ → ℕ → TokensState
tokens_by seed began per_host = record { seed = seed; began = began; draws = nat_lt 0 per_host }

-- the epoch of a moment, in milliseconds: five minutes each, and 0 before they began
abbrev pub epoch_at : TokensState → ℕ → ℕ
epoch_at t at = (at - t.began) / 300000

-- the secret of an epoch: the bytes of the five drawn words of its own, far after those that a lookup draws
unfoldable pub secret_of : List ℕ → ℕ → List ℕ
secret_of seed epoch = drawn_bytes seed (2 ^ 40 + 5 * epoch) 5

-- the token of an IPv4 address under the secret of an epoch: the first eight bytes of the hash of both
unfoldable pub token_of : List ℕ → ℕ → List ℕ → List ℕ
token_of seed epoch ip = take 8 (hash (ip ++ secret_of seed epoch))

-- the point at which a list that is drawn begins, for whoever asks from an IPv4 address for a key, under the secret of an
-- epoch: the first four bytes of the hash of the three, as an IPv4 address
unfoldable pub point_of : List ℕ → ℕ → List ℕ → List ℕ → List ℕ
point_of seed epoch ip key = take 4 (hash ((ip ++ key) ++ secret_of seed epoch))

-- the point at a moment, and zeros where no list is drawn
abbrev pub point_at : TokensState → List ℕ → ℕ → List ℕ → List ℕ
point_at t ip at key = cond t.draws (point_of t.seed (epoch_at t at) ip key) (replicate 4 0)

-- the secrets of an epoch and of the one before it; of the first epoch there is none before, and its own stands there
pub record AreSecrets (seed : List ℕ) (epoch : ℕ) (secret before : List ℕ) : Type 0 where
  pub low : epoch < 2 ^ 46
  pub secret_is : secret ≡ secret_of seed epoch
  pub before_is : before ≡ secret_of seed (epoch - 1)

-- the token is that of the address in the epoch of the moment, or in the epoch before it, if there is one
abbrev pub IsAccepted : TokensState → List ℕ → ℕ → List ℕ → Type 0
IsAccepted t ip at token =
    (token ≡ token_of t.seed (epoch_at t at) ip) ⊎ ((0 < epoch_at t at) × (token ≡ token_of t.seed (epoch_at t at - 1) ip))
