use Rattle.std.proofs.Common.{◌≡◌, ◌+◌, ◌<◌, ◌^◌, length}
use Rattle.claim_book.specs.Journal.{unsettled}
use Rattle.path_worker.specs.Settling.{Settling}
use Rattle.path_worker.proofs.alone.settle_alone.Given as goal

abbrev pub invariant-settling : goal.invariant-settling
invariant-settling g l = record {
  settling : Settling l.path l.fn.book l.book l.fn.table l.table;
  counted : l.count ≡ length settling.more;
  left : l.count + length (unsettled l.path l.book.journal) ≡ length (unsettled l.path l.fn.book.journal);
  few : length (unsettled l.path l.fn.book.journal) < 2 ^ 32;
}

abbrev pub decreases-settling : goal.decreases-settling
decreases-settling g l = length (unsettled l.path l.book.journal)
