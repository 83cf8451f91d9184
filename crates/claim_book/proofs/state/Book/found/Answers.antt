use Rattle.std.proofs.Common.{◌≡◌, List, take, map, sym, subst, ap, ◌∙◌}
use Rattle.std.specs.Prelude.{IfOk}
use Rattle.std.specs.List.{All, flat_map}
use Rattle.std.specs.List.Sorted.{IsStrictlySortedBy}
use Rattle.kad_base.specs.declared.types.Contact.{Contact}
use Rattle.kad_distance.specs.Order.{closeness}
use Rattle.kad_distance.specs.KClosest.{k_closest}
use Rattle.claim_book.specs.declared.path.Path.{Path}
use Rattle.claim_book.specs.State.{BookState}
use Rattle.claim_book.specs.Result.{result_of}
use Rattle.claim_book.proofs.Merging.{lists_rise, merged_is}
use Rattle.claim_book.proofs.state.Book.found.Goals as goal

pub merge-requires : goal.merge-requires
merge-requires c =
    let s = c.self.inside.setting in
    let lists = c.as_slice-2.ensures.value ∙ c.in_ok-lists.ensures ∙ ap (map (λ (x : Path). take s.k x.near.items)) c.as_slice.ensures.value in
    subst (All (IsStrictlySortedBy (closeness s.target))) (sym lists) (lists_rise s c.self.inside.journal.items c.self.inside.paths.items c.self.invariant.paths)

pub returns : goal.returns
returns c =
    let s = c.self.inside.setting in
    let lists = c.as_slice-2.ensures.value ∙ c.in_ok-lists.ensures ∙ ap (map (λ (x : Path). take s.k x.near.items)) c.as_slice.ensures.value in
    let is = ap (λ (l : List (List Contact)). k_closest s.target s.k (flat_map (λ m. m) l)) lists
    ∙ merged_is s c.self.inside.journal.items c.self.inside.paths.items c.self.invariant.book.some_path c.self.invariant.book.legal c.self.invariant.paths
    ∙ ap (λ (b : BookState). result_of b.setting b.journal) c.self.view_is in
    subst (λ (l : List Contact). IfOk c.merge.result (λ found. found ≡ l)) is c.merge.ensures
