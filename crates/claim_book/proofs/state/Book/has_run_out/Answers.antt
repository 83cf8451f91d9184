use Rattle.std.proofs.Common.{◌≡◌, Bool, true, false, Option, Some, None, is_some, not, refl, sym, subst, ap, ◌∙◌, arith}
use Rattle.std.specs.Prelude.{is_none}
use Rattle.kad_base.specs.declared.types.Contact.{Contact}
use Rattle.claim_book.specs.State.{BookState}
use Rattle.claim_book.specs.Journal.{first_unasked}
use Rattle.claim_book.specs.RunOut.{RunOut}
use Rattle.claim_book.proofs.Forever.{past_run_out}
use Rattle.claim_book.proofs.Reading.{runs_while_open, runs_while_left, path_runs_out}
use Rattle.claim_book.proofs.Whole.{path_here}
use Rattle.claim_book.proofs.state.Book.has_run_out.Goals as goal

pub returns-then-path-self : goal.returns-then-path-self
returns-then-path-self c = (
  λ h. subst (λ (b : BookState). RunOut b.setting c.args.path b.journal) c.self.view_is (past_run_out c.self.inside.setting c.self.inside.journal.items c.args.path c.self.invariant.book.some_path c.self.invariant.book.legal c.if-path-self.true),
  λ over. refl,
)

pub returns-then-here-gt0 : goal.returns-then-here-gt0
returns-then-here-gt0 c =
    let s = c.self.inside.setting in
    let J = c.self.inside.journal.items in
    let p = c.args.path in
    let x = path_here s J _ _ _ _ _ p c.index-here.result.now c.self.invariant (let b = c.if-path-self.false in omega arith) c.index-here.ensures in
    (λ h. absurd cc, λ over. absurd (runs_while_open s J p c.index-here.result.now x c.if-here-gt0.true (subst (λ (b : BookState). RunOut b.setting c.args.path b.journal) (sym c.self.view_is) over)))

pub returns-then-is_some : goal.returns-then-is_some
returns-then-is_some c =
    let s = c.self.inside.setting in
    let J = c.self.inside.journal.items in
    let p = c.args.path in
    let x = path_here s J _ _ _ _ _ p c.index-here.result.now c.self.invariant (let b = c.if-path-self.false in omega arith) c.index-here.ensures in
    (λ h. absurd cc, λ over. absurd (runs_while_left s J p c.index-here.result.now c.first_thing.result x c.first_thing.ensures (sym c.is_some.ensures ∙ c.if-is_some.true) (subst (λ (b : BookState). RunOut b.setting c.args.path b.journal) (sym c.self.view_is) over)))

none_from : (o : Option Contact) (r : Bool) → is_some o ≡ not r → r ≡ true → is_none o ≡ true
none_from None r e h = refl
none_from (Some x) r e h = absurd (let f = ap not h in cc)

is_from : (o : Option Contact) (r : Bool) → is_some o ≡ not r → is_none o ≡ true → r ≡ true
is_from None true e h = refl
is_from None false e h = absurd cc
is_from (Some x) r e h = absurd cc

pub returns : goal.returns
returns c =
    let s = c.self.inside.setting in
    let J = c.self.inside.journal.items in
    let p = c.args.path in
    let x = path_here s J _ _ _ _ _ p c.index-here.result.now c.self.invariant (let b = c.if-path-self.false in omega arith) c.index-here.ensures in
    let first = c.first_unasked.ensures ∙ ap (λ (b : BookState). first_unasked b.setting p b.journal) (sym c.self.view_is) in
    let over = path_runs_out s J p c.index-here.result.now c.first_unasked.result c.self.invariant.book.legal x c.if-here-gt0.false c.first_thing.result c.first_thing.ensures (sym c.is_some.ensures ∙ c.if-is_some.false) first in
    (λ h. subst (λ (b : BookState). RunOut b.setting c.args.path b.journal) c.self.view_is (over.0 (none_from _ _ c.is_none.ensures h)), λ r. is_from _ _ c.is_none.ensures (over.1 (subst (λ (b : BookState). RunOut b.setting c.args.path b.journal) (sym c.self.view_is) r)))
