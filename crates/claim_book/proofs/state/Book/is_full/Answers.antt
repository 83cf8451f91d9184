use Rattle.std.proofs.Common.{◌≡◌, length, sym, ap, ◌∙◌, inl, inr, arith}
use Rattle.std.proofs.lemmas.Bool.{eqb-true, eq-eqb, cases_lt}
use Rattle.kad_base.specs.Limits.{max_path_contacts}
use Rattle.claim_book.specs.State.{BookState}
use Rattle.claim_book.specs.Journal.{path}
use Rattle.claim_book.proofs.Bounds.{path_few}
use Rattle.claim_book.proofs.Forever.{past_contacts}
use Rattle.claim_book.proofs.Whole.{path_here}
use Rattle.claim_book.proofs.state.Book.is_full.Goals as goal

pub returns-then-path-self-clause-room : goal.returns-then-path-self-clause-room
returns-then-path-self-clause-room c h =
    let none = ap length (past_contacts c.self.inside.setting c.self.inside.journal.items c.args.path c.self.invariant.book.some_path c.self.invariant.book.legal c.if-path-self.true) in
    let here = ap (λ (b : BookState). length (path c.args.path b.journal)) c.self.view_is in
    omega arith

pub returns-clause-full : goal.returns-clause-full
returns-clause-full c h =
    let s = c.self.inside.setting in
    let J = c.self.inside.journal.items in
    let x = path_here s J _ _ _ _ _ c.args.path c.index.result.now c.self.invariant (let b = c.if-path-self.false in omega arith) c.index.ensures in
    let here = x.counted ∙ ap (λ (b : BookState). length (path c.args.path b.journal)) c.self.view_is in
    sym here ∙ eqb-true c.index.result.now.count max_path_contacts h

pub returns-clause-room : goal.returns-clause-room
returns-clause-room c h =
    let s = c.self.inside.setting in
    let J = c.self.inside.journal.items in
    let n = c.index.result.now.count in
    let x = path_here s J _ _ _ _ _ c.args.path c.index.result.now c.self.invariant (let b = c.if-path-self.false in omega arith) c.index.ensures in
    let here = x.counted ∙ ap (λ (b : BookState). length (path c.args.path b.journal)) c.self.view_is in
    let few = path_few s J c.self.invariant.book.small c.self.invariant.book.legal c.args.path in
    let counted = x.counted in
    elim (cases_lt n max_path_contacts) [
      | inl lt ↦ omega arith
      | inr ge ↦ (let is : n ≡ max_path_contacts = omega arith in let yes = eq-eqb n max_path_contacts is in absurd cc)
    ]
