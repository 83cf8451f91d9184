use Rattle.std.proofs.Common.{drop}
use Rattle.std.specs.List.{AllByRecursion}
use Rattle.kad_records.specs.Records.{IsWellReport}
use Rattle.kad_records.proofs.well_typed.law_reports.Given as goal

abbrev pub invariant-loop-report : goal.invariant-loop-report
invariant-loop-report l = AllByRecursion IsWellReport (drop l.report-index l.reports) → AllByRecursion IsWellReport l.reports
