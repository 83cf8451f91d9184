use Rattle.std.proofs.Common.{sym}
use Rattle.query_book.proofs.Kept.{found_at, queries_remove, closes_found}
use Rattle.query_book.proofs.Queries.take.Goals as goal

pub invariant_of-self : goal.invariant_of-self
invariant_of-self c =
    let at = c.in_ok-place.ensures.some in
    rw c.remove.ensures.items (queries_remove c.self.inside.queries.items c.in_ok-place.place c.self.invariant (found_at _ c.in_ok-place.place at.query (rw (sym c.as_slice.ensures.value) at.here)).0)

pub returns-clause-some : goal.returns-clause-some
returns-clause-some c =
    closes_found c.args.tx c.args.from c.as_slice.result.now c.args.self.now c.self.inside.queries.items c.remove.new.self.items c.in_ok-place.place c.remove.result
    (c.as_slice.ensures.value) c.self.view_is c.in_ok-place.ensures.some c.remove.ensures.value c.remove.ensures.items
