use Rattle.std.proofs.Common.{drop}
use Rattle.std.specs.List.{AllByRecursion}
use Rattle.kad_records.specs.Records.{IsWellAddr}
use Rattle.kad_records.proofs.well_typed.law_addrs.Given as goal

abbrev pub invariant-loop-addr : goal.invariant-loop-addr
invariant-loop-addr l = AllByRecursion IsWellAddr (drop l.addr-index l.addrs) → AllByRecursion IsWellAddr l.addrs
