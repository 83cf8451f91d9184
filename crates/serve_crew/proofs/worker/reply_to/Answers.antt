use Rattle.std.proofs.Common.{◌++◌}
use Rattle.kad_base.specs.Serial.{left_by}
use Rattle.serve_crew.proofs.Growing.{last_step}
use Rattle.serve_crew.proofs.worker.reply_to.Goals as goal

pub returns-clause-step : goal.returns-clause-step
returns-clause-step g c = (
  left_by g.S.Serial.after c.args.turn.now.start (c.args.pass.now.seen ++ c.call.ensures.seen.0),
  last_step g.S.Serial.may g.S.Serial.step g.S.Serial.after c.args.turn.now.start c.args.pass.now.role c.args.call c.call.result c.args.pass.now.seen c.call.new.pass.seen c.call.ensures.run c.call.ensures.seen,
)
