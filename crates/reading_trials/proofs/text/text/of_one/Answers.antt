use Rattle.reading_trials.proofs.Failures.{can_be_written}
use Rattle.reading_trials.proofs.text.text.of_one.Goals as goal

pub returns : goal.returns
returns c = can_be_written c.rows.result _ c.sound.ensures c.rows.ensures
