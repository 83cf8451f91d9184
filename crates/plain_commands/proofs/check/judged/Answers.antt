use Rattle.plain_commands.proofs.Verdicts.{judged_more, judged_all}
use Rattle.plain_commands.proofs.check.judged.Goals as goal

pub loop-report-preserved : goal.loop-report-preserved
loop-report-preserved g c = judged_more c.args.policy c.args.reports.now c.loop-report.report-index _ c.loop-report.verdicts c.push.new.self c.check.result c.loop-report-test.true c.loop-report.invariant c.check.ensures c.in_ok-push.ensures.ok

pub returns : goal.returns
returns g c = judged_all c.args.policy c.args.reports.now c.loop-report.report-index c.loop-report.verdicts c.loop-report-test.false c.loop-report.invariant
