use Rattle.std.proofs.Common.{◌≡◌, ◌≤◌, ◌++◌, false, List, length, take, ap, ◌∙◌, sym, subst}
use Rattle.std.specs.Ordering.{is_gt}
use Rattle.std.proofs.lemmas.Result.{IfOk-weaker}
use Rattle.kad_base.specs.declared.types.Addr.{Addr}
use Rattle.peer_store.specs.declared.ends.TheConstants.{LAST}
use Rattle.peer_store.specs.Peers.{fresh, fresh_of, peers_of, max_listed, held_of, around, drawn}
use Rattle.peer_store.proofs.Ordered.{derived}
use Rattle.peer_store.proofs.Around.{both, few_taken, forward_below, forward_from, fresh_below, fresh_from}
use Rattle.peer_store.proofs.drawing.drawn_of.Goals as goal

pub range-requires : goal.range-requires
range-requires c =
    let key = c.args.key in
    subst (λ p. is_gt (derived (key, p) (key, LAST)) ≡ false) (sym c.point_of-point.ensures) (forward_from key (held_of c.args.adds.now.held key) c.args.first)

pub range_below-requires : goal.range_below-requires
range_below-requires c = forward_below c.args.key c.point_of-point.result c.is_between.ensures

pub take_fresh-requires-2 : goal.take_fresh-requires-2
take_fresh-requires-2 c =
    subst (λ l. length l ≤ max_listed) (sym c.in_ok-from.ensures) (few_taken max_listed (c.new-none.result ++ peers_of (fresh c.range.result c.args.at)))

pub returns : goal.returns
returns c =
    let held = c.args.adds.now.held in
    let key = c.args.key in
    let at = c.args.at in
    let p = c.point_of-point.result in
    let up = fresh_from held c.range.result key at p c.requires c.range.ensures in
    let down = fresh_below held c.range_below.result key at p c.requires c.range_below.ensures in
    let from = c.in_ok-from.from in
    let begun : from ≡ take max_listed (peers_of (fresh c.range.result at)) =
    c.in_ok-from.ensures ∙ ap (λ (l : List Addr). take max_listed (l ++ peers_of (fresh c.range.result at))) c.new-none.ensures in
    let all = ap (λ q. take max_listed (peers_of (around q (fresh_of held key at)))) c.point_of-point.ensures in
    IfOk-weaker c.take_fresh-2.result (λ l. l ≡ take max_listed (from ++ peers_of (fresh c.range_below.result at))) (λ l. l ≡ drawn c.args.adds.now key at c.args.first)
    (λ l is. both held key at p from l (fresh c.range.result at) (fresh c.range_below.result at) up down begun is ∙ all) c.take_fresh-2.ensures
