use Rattle.std.proofs.Common.{sym, ◌∙◌}
use Rattle.std.specs.Map.{keys_of}
use Rattle.std.proofs.lemmas.Result.{on_ok_weaker}
use Rattle.peer_store.proofs.Ordered.{held_by, put_by, sorted_by, crowded_by, full_by, own_host}
use Rattle.peer_store.proofs.adds.put.Goals as goal

pub put-requires : goal.put-requires
put-requires c = own_host (c.args.key, c.args.peer) _

pub returns-clause-ok : goal.returns-clause-ok
returns-clause-ok c = on_ok_weaker c.put.result (λ e. e ∙ put_by c.args.adds.now (c.args.key, c.args.peer) c.args.at) c.put.ensures.stored

pub returns-clause-renewed : goal.returns-clause-renewed
returns-clause-renewed c =
    let e = held_by c.args.adds.now (c.args.key, c.args.peer) in
    (λ h. sym e ∙ c.put.ensures.renewed.0 h, λ h. c.put.ensures.renewed.1 (e ∙ h))

pub returns-clause-crowded : goal.returns-clause-crowded
returns-clause-crowded c = crowded_by _ c.args.adds.now (c.args.key, c.args.peer) c.put.ensures.crowded

pub returns-clause-full : goal.returns-clause-full
returns-clause-full c = full_by _ c.args.adds.now (c.args.key, c.args.peer) c.put.ensures.full

pub returns-clause-sorted : goal.returns-clause-sorted
returns-clause-sorted c = sorted_by (keys_of c.put.new.self.held) c.put.ensures.sorted
