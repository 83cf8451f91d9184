use Rattle.std.proofs.Common.{◌≡◌, ◌+◌, ◌≤◌, length, vec_capacity}
use Rattle.std.specs.List.{All}
use Rattle.driver_trials.proofs.hand.turn.call_last_first.Given as goal

abbrev pub invariant-loop-pass : goal.invariant-loop-pass
invariant-loop-pass g l = record {
  left : All (λ p. p.turn ≡ l.turn.id) l.passes.passes;
  out : All (λ p. p.turn ≡ l.turn.id) l.out.items;
  count : length l.passes.passes + length l.out.items ≡ length l.fn.passes.passes;
  space : length l.fn.passes.passes ≤ vec_capacity l.out;
  room : l.passes.room ≡ l.fn.passes.room;
}

abbrev pub decreases-loop-pass : goal.decreases-loop-pass
decreases-loop-pass g l = length l.passes.passes
