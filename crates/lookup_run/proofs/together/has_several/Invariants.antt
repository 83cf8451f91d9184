use Rattle.std.proofs.Common.{◌≡◌}
use Rattle.lookup_run.proofs.Several.{AtMostOne}
use Rattle.lookup_run.proofs.together.has_several.Given as goal

abbrev pub invariant-loop-path : goal.invariant-loop-path
invariant-loop-path l = record {
  same : l.book ≡ l.fn.book;
  so_far : AtMostOne l.some l.path l.fn.book.journal;
}
