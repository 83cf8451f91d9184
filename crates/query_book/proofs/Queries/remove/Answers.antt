use Rattle.std.proofs.Common.{◌<◌, List, Some, length, sym, ap, subst, ◌∙◌}
use Rattle.std.specs.Prelude.{slice_get}
use Rattle.std.proofs.lemmas.Option.{slice_get-get_or}
use Rattle.query_book.specs.declared.Query.{Query}
use Rattle.query_book.proofs.Kept.{queries_remove}
use Rattle.query_book.proofs.Queries.remove.Goals as goal

pub invariant_of-self : goal.invariant_of-self
invariant_of-self c =
    let items = c.self.inside.queries.items in
    rw c.remove.ensures.items (queries_remove items c.args.place c.self.invariant (subst (λ (l : List Query). c.args.place < length l) (sym c.self.view_is) c.requires))

pub returns-clause-query : goal.returns-clause-query
returns-clause-query c =
    let items = c.self.inside.queries.items in
    let below = subst (λ (l : List Query). c.args.place < length l) (sym c.self.view_is) c.requires in
    ap (λ (l : List Query). slice_get l c.args.place) (sym c.self.view_is) ∙ slice_get-get_or items c.args.place c.remove.result below ∙ ap Some (sym c.remove.ensures.value)
