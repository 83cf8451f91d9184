use Rattle.std.proofs.Common.{take}
use Rattle.command_base.specs.Input.{Admits}
use Rattle.command_base.proofs.input.admitted.Given as goal

abbrev pub invariant-loop-report : goal.invariant-loop-report
invariant-loop-report g l = Admits l.own l.family l.policy (take l.report-index l.reports) l.contacts
