use Rattle.std.specs.Prelude.{List, Option}
use Rattle.kad_base.specs.declared.types.Event.{Event}
use Rattle.lookup_run.specs.Rounds.{Scheduling}
use Rattle.lookup_run.specs.inner.RoundSteps.{SettlesPaths}
use Rattle.lookup_run.proofs.settle.settle_paths.Given as goal

abbrev pub invariant-loop-path : goal.invariant-loop-path
invariant-loop-path g l = (scheduling : Scheduling) (told : Option (List Event)) → SettlesPaths scheduling l.look 0 l.path l.fn.work l.work told
