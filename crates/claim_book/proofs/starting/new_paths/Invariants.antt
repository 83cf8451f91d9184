use Rattle.std.proofs.Common.{◌≡◌, length}
use Rattle.std.specs.List.{All}
use Rattle.claim_book.specs.Index.{IsEmptyPath}
use Rattle.claim_book.proofs.starting.new_paths.Given as goal

abbrev pub invariant-loop : goal.invariant-loop
invariant-loop l = record {
  len : length l.paths.items ≡ l.counter;
  empty : All IsEmptyPath l.paths.items;
}
