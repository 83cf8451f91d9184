use Rattle.path_study.proofs.Telling.{ToldUsable}
use Rattle.path_study.proofs.study.table_of.Given as goal

abbrev pub invariant-loop-contact : goal.invariant-loop-contact
invariant-loop-contact l = ToldUsable l.own l.k l.table
