use Rattle.std.proofs.Common.{sym, ap, ◌∙◌, arith}
use Rattle.claim_book.specs.State.{BookState}
use Rattle.claim_book.specs.Journal.{first_unasked, may_ask}
use Rattle.claim_book.proofs.Reading.{asks, asks_full, past_asks}
use Rattle.claim_book.proofs.Whole.{path_here}
use Rattle.claim_book.proofs.state.Book.may_ask.Goals as goal

pub returns-then-path-self : goal.returns-then-path-self
returns-then-path-self c = past_asks c.self.inside.setting c.self.inside.journal.items c.args.path c.self.invariant.book.some_path c.self.invariant.book.legal c.if-path-self.true ∙ ap (λ (b : BookState). may_ask b.setting c.args.path b.journal) c.self.view_is

pub returns-then-index-self : goal.returns-then-index-self
returns-then-index-self c =
    let s = c.self.inside.setting in
    let J = c.self.inside.journal.items in
    let p = c.args.path in
    let x = path_here s J _ _ _ _ _ p c.index.result.now c.self.invariant (omega arith) c.index.ensures in
    asks_full s J p c.index.result.now x (omega (arith, c.if-index-self.true)) ∙ ap (λ (b : BookState). may_ask b.setting c.args.path b.journal) c.self.view_is

pub returns : goal.returns
returns c =
    let s = c.self.inside.setting in
    let J = c.self.inside.journal.items in
    let p = c.args.path in
    let x = path_here s J _ _ _ _ _ p c.index.result.now c.self.invariant (omega arith) c.index.ensures in
    c.first_unasked.ensures ∙ ap (λ (b : BookState). first_unasked b.setting p b.journal) (sym c.self.view_is) ∙ asks s J p c.index.result.now x (omega (arith, c.if-index-self.false))
    ∙ ap (λ (b : BookState). may_ask b.setting p b.journal) c.self.view_is
