use Rattle.std.proofs.Common.{◌≡◌, take}
use Rattle.kad_base.specs.Contacts.{without}
use Rattle.claim_book.specs.Journal.{path}
use Rattle.lookup_commands.proofs.spread.alive_on.Given as goal

abbrev pub invariant-loop-entry : goal.invariant-loop-entry
invariant-loop-entry l = l.alive ≡ without (path l.path (take l.entry-index l.journal)) l.gone
