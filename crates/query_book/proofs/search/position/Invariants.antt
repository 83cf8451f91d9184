use Rattle.std.proofs.Common.{ℕ, ◌<◌, get_or}
use Rattle.query_book.specs.declared.Query.{Query}
use Rattle.query_book.specs.Queries.{IsOf}
use Rattle.query_book.proofs.search.position.Given as goal

abbrev pub invariant-loop-place : goal.invariant-loop-place
invariant-loop-place l = (k : ℕ) (d : Query) → k < l.place → IsOf l.tx l.from (get_or l.queries k d) → ⊥
