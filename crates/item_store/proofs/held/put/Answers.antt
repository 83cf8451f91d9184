use Rattle.std.proofs.Common.{◌∙◌}
use Rattle.std.proofs.lemmas.Result.{on_ok_weaker}
use Rattle.item_store.proofs.Keeping.{own_host, crowded_by, full_by, entry_is}
use Rattle.item_store.proofs.held.put.Goals as goal

pub put-requires : goal.put-requires
put-requires c = own_host c.args.held.now c.args.key c.args.from c.first_from-first.result c.host_of.result c.host_of.ensures c.first_from-first.ensures

pub returns-clause-ok : goal.returns-clause-ok
returns-clause-ok c =
    on_ok_weaker c.put.result
    (λ e. e ∙ entry_is c.args.held.now c.args.key c.args.from c.first_from-first.result c.host_of.result c.host_of.ensures c.first_from-first.ensures c.args.v c.args.at)
    c.put.ensures.stored

pub returns-clause-crowded : goal.returns-clause-crowded
returns-clause-crowded c =
    crowded_by c.args.held.now c.args.key c.args.from c.first_from-first.result c.host_of.result c.host_of.ensures c.first_from-first.ensures _ c.put.ensures.crowded

pub returns-clause-full : goal.returns-clause-full
returns-clause-full c =
    full_by c.args.held.now c.args.key c.args.from c.first_from-first.result c.host_of.result c.host_of.ensures c.first_from-first.ensures _ c.put.ensures.full
