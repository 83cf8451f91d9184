use Rattle.std.proofs.Common.{◌≡◌}
use Rattle.driver_trials.proofs.hand.turn.count_up.Given as goal

abbrev pub invariant-loop : goal.invariant-loop
invariant-loop g l = l.pass.turn ≡ l.turn.id
