use Rattle.std.proofs.Common.{◌<◌, length, sym, ap, ◌∙◌, arith}
use Rattle.claim_book.specs.State.{BookState}
use Rattle.claim_book.specs.Journal.{first_unsettled}
use Rattle.claim_book.proofs.Forever.{past_settled}
use Rattle.claim_book.proofs.Deciding.{no_first}
use Rattle.claim_book.proofs.Pathed.{path_at}
use Rattle.claim_book.proofs.Reading.{front_is}
use Rattle.claim_book.proofs.state.Book.front.Goals as goal

pub returns-then-path-self : goal.returns-then-path-self
returns-then-path-self c = sym (no_first c.args.path c.self.inside.journal.items (past_settled c.self.inside.setting c.self.inside.journal.items c.args.path c.self.invariant.book.some_path c.self.invariant.book.legal c.if-path-self.true)) ∙ ap (λ (b : BookState). first_unsettled c.args.path b.journal) c.self.view_is

pub returns : goal.returns
returns c =
    let s = c.self.inside.setting in
    let J = c.self.inside.journal.items in
    let p = c.args.path in
    let lt : p < length c.self.inside.paths.items = (let a = c.self.invariant.paths.enough in let b = c.if-path-self.false in omega arith) in
    let x = path_at s J _ p c.index.result.now c.self.invariant.paths lt c.index.ensures in
    c.first_thing.ensures ∙ front_is s J p c.index.result.now x ∙ ap (λ (b : BookState). first_unsettled p b.journal) c.self.view_is
