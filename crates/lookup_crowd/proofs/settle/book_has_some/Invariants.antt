use Rattle.std.proofs.Common.{◌≡◌}
use Rattle.claim_book.specs.Journal.{AllSettled}
use Rattle.lookup_crowd.proofs.settle.book_has_some.Given as goal

abbrev pub invariant-loop-path : goal.invariant-loop-path
invariant-loop-path l = record {
  same : l.book ≡ l.fn.book;
  none : AllSettled l.path l.fn.book.journal;
}
