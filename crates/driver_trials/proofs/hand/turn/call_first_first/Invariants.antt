use Rattle.std.proofs.Common.{◌≡◌, ◌+◌, ◌≤◌, length}
use Rattle.std.specs.List.{All}
use Rattle.driver_trials.proofs.hand.turn.call_first_first.Given as goal

abbrev pub invariant-loop-pass : goal.invariant-loop-pass
invariant-loop-pass g l = record {
  left : All (λ p. p.turn ≡ l.turn.id) l.out.items;
  back : All (λ p. p.turn ≡ l.turn.id) l.passes.passes;
  count : length l.passes.passes + length l.out.items ≡ length l.fn.out.items;
  room : length l.fn.out.items ≤ l.passes.room;
}

abbrev pub decreases-loop-pass : goal.decreases-loop-pass
decreases-loop-pass g l = goal.left-loop-pass g l
