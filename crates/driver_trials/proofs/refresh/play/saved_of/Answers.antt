use Rattle.driver_trials.proofs.Failures.{can_be_written}
use Rattle.driver_trials.proofs.refresh.play.saved_of.Goals as goal

pub returns : goal.returns
returns c = can_be_written c.rows.result _ c.sound.ensures c.rows.ensures
