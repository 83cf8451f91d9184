use Rattle.std.proofs.Common.{ℕ, ◌+◌, ◌-◌, ◌%◌, ◌^◌, ◌<◌, ◌≤◌, length}
use Rattle.query_book.specs.Queries.{HasId}
use Rattle.query_book.proofs.Counting.{ahead}
use Rattle.query_book.proofs.search.first_free.Given as goal

abbrev pub invariant-loop-steps : goal.invariant-loop-steps
invariant-loop-steps l = record {
  few : l.steps + length (ahead l.word l.steps l.queries) ≤ length l.queries;
  taken_before : (n : ℕ) → n < l.steps → HasId l.queries ((l.word + n) % 2 ^ 32);
}

abbrev pub decreases-loop-steps : goal.decreases-loop-steps
decreases-loop-steps l = length l.queries - l.steps
