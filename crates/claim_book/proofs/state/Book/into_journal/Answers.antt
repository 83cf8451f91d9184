use Rattle.std.proofs.Common.{subst}
use Rattle.claim_book.specs.State.{BookState}
use Rattle.claim_book.specs.Lineage.{GoesByOwnAnswers}
use Rattle.claim_book.proofs.Descent.{own_answers}
use Rattle.claim_book.proofs.state.Book.into_journal.Goals as goal

pub returns-clause-own_answers : goal.returns-clause-own_answers
returns-clause-own_answers c = subst (λ (b : BookState). GoesByOwnAnswers b.setting b.journal) c.self.view_is (own_answers c.self.inside.setting c.self.inside.journal.items c.self.invariant.book.legal)
