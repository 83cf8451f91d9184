use Rattle.std.proofs.Common.{◌≡◌, true, sym, subst}
use Rattle.kad_base.specs.Contacts.{among}
use Rattle.claim_book.specs.Journal.{open_on}
use Rattle.claim_book.proofs.Deciding.{open_on_asker}
use Rattle.claim_book.proofs.state.Book.heard.Goals as goal

pub hear-requires-clause-asks : goal.hear-requires-clause-asks
hear-requires-clause-asks c = subst (λ n. among (open_on n c.args.self.now.journal) c.args.contact ≡ true) (sym c.in-Some.ensures.1) (open_on_asker c.args.self.now.journal c.args.contact c.in-Some.ensures.0)
