use Rattle.std.proofs.Common.{length, take}
use Rattle.kad_text.specs.Lines.{lines, Reporting}
use Rattle.kad_text.proofs.lines.read_lines.Given as goal

abbrev pub invariant-loop-i : goal.invariant-loop-i
invariant-loop-i l = Reporting (take (length l.yielded) (lines l.bytes)) l.reports
