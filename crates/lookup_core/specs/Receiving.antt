-- How long a receive waits, and when a round of receives is over, whoever makes them. A round begins with a receive that waits
-- to the earliest deadline; up to 31 more wait for nothing (this project's own).
use Rattle.std.specs.Prelude.{◌≡◌, ℕ, zero, suc, ◌+◌, ◌≤◌, List, [], map, Contains, Option, Some, None, if◌then◌else◌, nat_lt}
use Rattle.std.specs.List.{AllByRecursion}
use Rattle.query_book.specs.declared.Query.{Query}
use Rattle.kad_base.specs.Limits.{max_round_receives}

-- the earliest of these deadlines
pub record IsEarliest (deadlines : List ℕ) (moment : ℕ) : Type 0 where
  pub one : Contains deadlines moment
  pub least : AllByRecursion (λ d. moment ≤ d) deadlines

-- the earliest deadline of the queries, if there is one
abbrev pub IsSoonest : Option ℕ → List Query → Type 0
IsSoonest None qs = qs ≡ []
IsSoonest (Some d) qs = IsEarliest (map (λ q. q.deadline) qs) d

-- how long a receive waits while queries are open: to the earliest deadline where it begins a round, and else not at all
abbrev pub WaitsUntil : ℕ → ℕ → List ℕ → ℕ → Type 0
WaitsUntil zero moment deadlines until = IsEarliest deadlines until
WaitsUntil (suc n) moment deadlines until = until ≡ moment

-- the receives of the round after a datagram, where so many queries are open: it goes on while one is and it has had fewer
-- receives than a round may have
abbrev pub goes_on : ℕ → ℕ → ℕ
goes_on n zero = 0
goes_on n (suc k) = if nat_lt (n + 1) max_round_receives then n + 1 else 0
