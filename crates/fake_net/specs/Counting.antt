-- The scan for the nodes that a node knows, and the search for the next answer, after the first n.
use Rattle.std.specs.Prelude.{◌≡◌, ℕ, ◌<◌, ◌≤◌, min, List, get_or, length, Option, Some, slice_get, MatchOption}
use Rattle.std.specs.List.{AllWithin}
use Rattle.fake_net.specs.declared.waiting.Waiting.{Waiting}
use Rattle.fake_net.specs.Network.{bucket_below}

-- of each bucket of node i how many nodes of a number below n are of it, up to 8
pub record CountsBelow (seed : List ℕ) (i n : ℕ) (counts : List ℕ) : Type 0 where
  pub long : length counts ≡ 161
  pub counted : (bits : ℕ) → bits ≤ 160 → get_or counts bits 0 ≡ min (bucket_below seed i bits n) 8

-- the answer at the place comes by then; each before it in the list comes later, and of the first n none comes sooner
pub record IsBestWaiting (waiting : List Waiting) (until n place : ℕ) : Type 0 where
  pub answer : Waiting
  pub here : slice_get waiting place ≡ Some answer
  pub soon : answer.at ≤ until
  pub first : AllWithin (λ w. answer.at < w.at) waiting 0 place
  pub earliest : AllWithin (λ w. answer.at ≤ w.at) waiting 0 n

-- the best of the first n, if one of them comes by then
abbrev pub FindsAmong : List Waiting → ℕ → ℕ → Option ℕ → Type 0
FindsAmong waiting until n best = MatchOption best (AllWithin (λ w. until < w.at) waiting 0 n) (IsBestWaiting waiting until n)
