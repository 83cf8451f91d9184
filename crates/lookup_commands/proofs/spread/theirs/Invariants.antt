use Rattle.std.proofs.Common.{◌≡◌, take}
use Rattle.claim_book.specs.Journal.{theirs}
use Rattle.lookup_commands.proofs.spread.theirs.Given as goal

abbrev pub invariant-loop-entry : goal.invariant-loop-entry
invariant-loop-entry l = l.asked ≡ theirs l.path (take l.entry-index l.journal)
