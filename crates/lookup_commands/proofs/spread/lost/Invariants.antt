use Rattle.std.proofs.Common.{◌≡◌, take}
use Rattle.claim_book.specs.Journal.{failed}
use Rattle.lookup_commands.proofs.spread.lost.Given as goal

abbrev pub invariant-loop-entry : goal.invariant-loop-entry
invariant-loop-entry l = l.lost ≡ failed (take l.entry-index l.journal)
