use Rattle.std.proofs.Common.{◌≡◌, List, Some, ap, ◌∙◌}
use Rattle.std.specs.Prelude.{slice_get}
use Rattle.query_book.specs.declared.Query.{Query}
use Rattle.query_book.proofs.Kept.{oldest_first}
use Rattle.query_book.proofs.Queries.next_deadline.Goals as goal

pub returns-clause-earliest : goal.returns-clause-earliest
returns-clause-earliest c =
    let items = c.self.inside.queries.items in
    let first : Some c.in_ok-oldest.oldest.now ≡ slice_get items 0 = c.in_ok-oldest.ensures.value ∙ ap (λ (l : List Query). slice_get l 0) c.as_slice.ensures.value in
    rw (← c.self.view_is) (oldest_first items c.in_ok-oldest.oldest.now c.self.invariant first)
