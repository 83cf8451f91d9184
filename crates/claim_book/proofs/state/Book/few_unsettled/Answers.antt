use Rattle.std.proofs.Common.{ℕ, ◌<◌, ◌^◌, length, subst}
use Rattle.claim_book.specs.Journal.{unsettled}
use Rattle.claim_book.specs.State.{BookState}
use Rattle.claim_book.proofs.Few.{unsettled_few}
use Rattle.claim_book.proofs.state.Book.few_unsettled.Goals as goal

pub returns : goal.returns
returns c =
    let b = c.self.invariant.book in
    subst (λ (b : BookState). (p : ℕ) → length (unsettled p b.journal) < 2 ^ 32) c.self.view_is (unsettled_few c.self.inside.setting c.self.inside.journal.items b.some_path b.few_paths b.small b.legal)
