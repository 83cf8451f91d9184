-- When a lookup's open queries run out.
use Rattle.std.specs.Prelude.{ℕ, ◌+◌, ◌-◌, ◌^◌, min, List, map, filter, Bool, not, nat_lt}
use Rattle.claim_book.specs.declared.types.Cause.TheVariants.{Timeout}
use Rattle.claim_book.specs.declared.types.Entry.{Entry}
use Rattle.claim_book.specs.declared.types.Entry.TheVariants.{Lost}
use Rattle.lookup_core.specs.Matching.{OpenQuery}

-- A moment that a sum would put past the last one is the last one.
abbrev pub deadline_of : ℕ → ℕ → ℕ
deadline_of moment timeout = min (moment + timeout) (2 ^ 64 - 1)

-- the moment has passed the deadline
abbrev pub is_overdue : ℕ → OpenQuery → Bool
is_overdue at q = not (nat_lt at q.deadline)

-- an open query whose time has passed loses its contact (Kademlia, 2002, section 2.2)
abbrev pub timed_out : OpenQuery → Entry
timed_out q = Lost q.path q.contact Timeout

-- The receive told a moment: the queries that are overdue then are lost, oldest first.
abbrev pub closed_at : ℕ → List OpenQuery → List Entry
closed_at at queries = map timed_out (filter (is_overdue at) queries)

-- the queries that are still open then
abbrev pub open_at : ℕ → List OpenQuery → List OpenQuery
open_at at queries = filter (λ q. not (is_overdue at q)) queries
