use Rattle.std.proofs.Common.{◌≡◌, ◌∙◌}
use Rattle.query_book.proofs.Kept.{found_any}
use Rattle.query_book.proofs.Queries.find.Goals as goal

pub returns-clause-some : goal.returns-clause-some
returns-clause-some c =
    let whole : c.as_slice.result.now ≡ c.args.self.now = c.as_slice.ensures.value ∙ c.self.view_is in
    let again : c.as_slice-2.result.now ≡ c.args.self.now = c.as_slice-2.ensures.value ∙ c.self.view_is in
    found_any c.args.tx c.args.from _ _ _ c.in_ok-place.place _ whole again c.in_ok-place.ensures.some
