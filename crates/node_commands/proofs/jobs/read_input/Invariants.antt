use Rattle.std.proofs.Common.{length, take}
use Rattle.node_commands.specs.JobLines.{Naming}
use Rattle.kad_text.specs.Lines.{lines}
use Rattle.node_commands.proofs.jobs.read_input.Given as goal

abbrev pub invariant-loop-i : goal.invariant-loop-i
invariant-loop-i l = Naming (take (length l.yielded) (lines l.bytes)) l.reports l.jobs
