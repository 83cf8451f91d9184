use Rattle.driver_trials.proofs.Trying.{ToldUsable}
use Rattle.driver_trials.proofs.lookup.table_in.Given as goal

abbrev pub invariant-loop-n : goal.invariant-loop-n
invariant-loop-n l = ToldUsable l.own l.table
