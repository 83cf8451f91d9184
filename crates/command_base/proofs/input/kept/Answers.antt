use Rattle.command_base.proofs.Parts.{keeps_one}
use Rattle.command_base.proofs.input.kept.Goals as goal

pub loop-report-preserved : goal.loop-report-preserved
loop-report-preserved g c = keeps_one c.args.own.now c.args.family c.args.policy c.args.reports.now c.loop-report.report-index _ c.loop-report.kept c.keep.new.kept c.loop-report-test.true c.loop-report.invariant c.in_ok-keep.ensures
