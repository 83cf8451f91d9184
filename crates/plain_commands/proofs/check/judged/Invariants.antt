use Rattle.std.proofs.Common.{take}
use Rattle.std.specs.List.{AllZip}
use Rattle.plain_commands.specs.Checked.{Judges}
use Rattle.plain_commands.proofs.check.judged.Given as goal

abbrev pub invariant-loop-report : goal.invariant-loop-report
invariant-loop-report g l = AllZip (Judges l.fn.policy) (take l.report-index l.reports) l.verdicts
