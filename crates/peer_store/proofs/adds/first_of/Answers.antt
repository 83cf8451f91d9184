use Rattle.std.proofs.Common.{◌≡◌, List, ◌++◌, ap, ◌∙◌, take}
use Rattle.std.proofs.lemmas.Result.{IfOk-weaker}
use Rattle.kad_base.specs.declared.types.Addr.{Addr}
use Rattle.peer_store.specs.Peers.{Held, fresh, peers_of, max_listed, listed}
use Rattle.peer_store.proofs.Listing.{forward, ranged}
use Rattle.peer_store.proofs.adds.first_of.Goals as goal

pub range-requires : goal.range-requires
range-requires c = forward c.args.key

pub returns : goal.returns
returns c =
    let held = c.args.adds.now.held in
    let same = ranged held c.range.result c.args.key c.args.at c.requires c.range.ensures in
    let none = c.new-none.result in
    IfOk-weaker c.take_fresh.result (λ l. l ≡ take max_listed (none ++ peers_of (fresh c.range.result c.args.at))) (λ l. l ≡ listed c.args.adds.now c.args.key c.args.at)
    (λ l is. is ∙ ap (λ (p : List Addr). take max_listed (p ++ peers_of (fresh c.range.result c.args.at))) c.new-none.ensures ∙ ap (λ (h : List Held). take max_listed (peers_of h)) same) c.take_fresh.ensures
