use Rattle.std.proofs.Common.{◌≡◌, ◌+◌, ◌≤◌, ◌++◌, take, length}
use Rattle.std.specs.VecDeque.{deque_capacity}
use Rattle.claim_book.specs.Journal.{things_in}
use Rattle.claim_book.proofs.path.give.Given as goal

abbrev pub invariant-loop-report : goal.invariant-loop-report
invariant-loop-report l = record {
  items : l.queue.items ≡ l.fn.queue.items ++ things_in l.contact (take l.report-index l.reports);
  room : length l.fn.queue.items + (length l.reports + 1) ≤ deque_capacity l.queue;
}
