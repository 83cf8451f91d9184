use Rattle.lookup_run.specs.Rounds.{sequential}
use Rattle.lookup_run.proofs.driver.fn.look_up_alone.look_by.Goals as goal

pub returns : goal.returns
returns g c = c.settle_paths.ensures sequential
