use Rattle.std.proofs.Common.{sym}
use Rattle.claim_book.proofs.Deciding.{none_unsettled}
use Rattle.claim_book.proofs.state.Book.pull.Goals as goal

pub returns-in-None : goal.returns-in-None
returns-in-None c = none_unsettled c.args.path c.args.self.now.journal (sym c.in-None.ensures)
