use Rattle.std.proofs.Common.{length}
use Rattle.table_file.proofs.BadLine.{HasRead}
use Rattle.table_file.proofs.reading.read.Given as goal

abbrev pub invariant-loop-line : goal.invariant-loop-line
invariant-loop-line l = HasRead l.bytes l.draft l.rest l.number

abbrev pub decreases-loop-line : goal.decreases-loop-line
decreases-loop-line l = length l.rest
