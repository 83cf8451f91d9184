use Rattle.command_base.proofs.Parts.{admits_one}
use Rattle.command_base.proofs.input.admitted.Goals as goal

pub loop-report-preserved : goal.loop-report-preserved
loop-report-preserved g c = admits_one c.args.own.now c.args.family c.args.policy c.args.reports.now c.loop-report.report-index _ c.loop-report.contacts c.admit.new.contacts c.loop-report-test.true c.loop-report.invariant c.in_ok-admit.ensures
