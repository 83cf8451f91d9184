use Rattle.std.proofs.Common.{◌≡◌, ◌<◌, List, Some, length, refl, sym, ap, ◌∙◌, arith}
use Rattle.std.specs.Prelude.{slice_get}
use Rattle.query_book.specs.declared.Query.{Query}
use Rattle.query_book.proofs.Kept.{oldest_first, queries_remove, found_at}
use Rattle.query_book.proofs.Queries.overdue.Goals as goal

pub returns-then-at-oldest-clause-none : goal.returns-then-at-oldest-clause-none
returns-then-at-oldest-clause-none c =
    let items = c.self.inside.queries.items in
    let first : Some c.in_ok-oldest.oldest.now ≡ slice_get items 0 = c.in_ok-oldest.ensures.value ∙ ap (λ (l : List Query). slice_get l 0) c.as_slice.ensures.value in
    let same : items ≡ c.args.self.now = c.self.view_is in
    (λ e k d lt. rw (← same) (let lt' : k < length items = rw same lt in let le = oldest_first items c.in_ok-oldest.oldest.now c.self.invariant first k d lt' in omega arith), λ none. refl)

pub invariant_of-self : goal.invariant_of-self
invariant_of-self c =
    let items = c.self.inside.queries.items in
    let first : slice_get items 0 ≡ Some c.in_ok-oldest.oldest.now = sym (c.in_ok-oldest.ensures.value ∙ ap (λ (l : List Query). slice_get l 0) c.as_slice.ensures.value) in
    rw c.remove.ensures.items (queries_remove items 0 c.self.invariant (found_at items 0 _ first).0)
