use Rattle.std.proofs.Common.{◌≢◌, ℕ, ◌<◌, Some}
use Rattle.contact_table.specs.Seats.{sitter}
use Rattle.contact_table.proofs.seats.is_seated.Given as goal

abbrev pub invariant-loop-place : goal.invariant-loop-place
invariant-loop-place l = (i : ℕ) → i < l.place → sitter l.seats l.host i ≢ Some l.contact
