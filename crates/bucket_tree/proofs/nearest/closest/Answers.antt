use Rattle.std.proofs.Common.{◌≡◌, List, ◌++◌, sym, ap, subst, ◌∙◌, arith}
use Rattle.std.specs.List.Sorted.{IsStrictlySortedBy}
use Rattle.kad_base.specs.declared.types.Contact.{Contact}
use Rattle.kad_distance.specs.Order.{closeness}
use Rattle.kad_distance.specs.KClosest.{k_closest}
use Rattle.bucket_tree.specs.Rows.{live_of}
use Rattle.bucket_tree.specs.Trees.{rows_of}
use Rattle.bucket_tree.proofs.Stops.{closest_both}
use Rattle.bucket_tree.proofs.Gathered.{gathered_sorted, gathered_few}
use Rattle.bucket_tree.proofs.nearest.closest.Goals as goal

pub gather-requires-clause-sorted : goal.gather-requires-clause-sorted
unfolding IsStrictlySortedBy
gather-requires-clause-sorted c = subst (IsStrictlySortedBy (closeness c.args.target.now)) (sym c.in-Ok.ensures.items) tt

pub put_all-requires-clause-sorted : goal.put_all-requires-clause-sorted
put_all-requires-clause-sorted c = gathered_sorted c.args.target.now c.args.k _ _ c.gather.ensures.items

pub put_all-requires-clause-few : goal.put_all-requires-clause-few
put_all-requires-clause-few c = let few = gathered_few c.args.target.now c.args.k _ _ c.gather.ensures.items in grind (arith, few)

pub returns : goal.returns
returns c =
    let live = live_of (rows_of c.args.root.now) in
    let near : c.gather.new.near.items ≡ k_closest c.args.target.now c.args.k live = c.gather.ensures.items ∙ ap (λ (l : List Contact). k_closest c.args.target.now c.args.k (l ++ live)) c.in-Ok.ensures.items in
    c.from_vec.ensures ∙ closest_both c.args.target.now c.args.k live c.args.others.now c.gather.new.near.items c.put_all.new.near.items near c.put_all.ensures
