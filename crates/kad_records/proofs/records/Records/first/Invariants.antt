use Rattle.std.proofs.Common.{◌≡◌, take}
use Rattle.kad_records.proofs.records.Records.first.Given as goal

abbrev pub invariant-loop-i : goal.invariant-loop-i
invariant-loop-i g l = l.items ≡ take l.i l.self
