use Rattle.std.proofs.Common.{◌≡◌, sym, subst}
use Rattle.std.specs.List.Sorted.{IsStrictlySortedBy}
use Rattle.std.proofs.lemmas.Result.{IfOk-weaker}
use Rattle.peer_store.specs.Peers.{listed, address_cmp}
use Rattle.peer_store.proofs.Ascending.{listed_ascend}
use Rattle.peer_store.proofs.peers.Peers.list.Goals as goal

pub returns-clause-in_order : goal.returns-clause-in_order
returns-clause-in_order c =
    let held = c.self.inside.adds.held in
    IfOk-weaker c.first_fresh.result (λ l. l ≡ listed c.self.inside.adds c.args.key c.args.at) (IsStrictlySortedBy address_cmp)
    (λ l is. subst (IsStrictlySortedBy address_cmp) (sym is) (listed_ascend c.args.key c.args.at held c.self.invariant.peers.sorted)) c.first_fresh.ensures
