use Rattle.std.proofs.Common.{◌≡◌}
use Rattle.lookup_crowd.proofs.Unsettled.{AtMostOne}
use Rattle.lookup_crowd.proofs.settle.several_have_some.Given as goal

abbrev pub invariant-loop-i : goal.invariant-loop-i
invariant-loop-i l = record {
  same : l.seekers ≡ l.fn.seekers;
  so_far : AtMostOne l.some l.i l.fn.seekers;
}
