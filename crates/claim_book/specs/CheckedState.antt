-- What callers see of a checked report: the verdict follows from it.
use Rattle.kad_base.specs.declared.types.Policy.{Policy}
use Rattle.kad_base.specs.declared.types.Report.{Report}

pub record CheckedState : Type 0 where
  pub policy : Policy
  pub report : Report
