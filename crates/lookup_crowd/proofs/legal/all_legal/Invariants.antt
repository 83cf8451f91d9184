use Rattle.std.proofs.Common.{take}
use Rattle.std.specs.List.{AllByRecursion}
use Rattle.lookup_crowd.specs.inner.Crowd.{IsLegal}
use Rattle.lookup_crowd.proofs.legal.all_legal.Given as goal

abbrev pub invariant-loop-i : goal.invariant-loop-i
invariant-loop-i l = AllByRecursion IsLegal (take l.i l.seekers)
