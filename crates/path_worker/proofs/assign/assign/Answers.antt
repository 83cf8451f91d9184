use Rattle.std.proofs.Common.{◌-◌}
use Rattle.std.proofs.lemmas.List.Elements.{All-same}
use Rattle.path_worker.specs.Assignment.{assigned}
use Rattle.path_worker.proofs.Pools.{Can, assigned_can}
use Rattle.path_worker.proofs.assign.assign.Goals as goal

pub returns-clause-can : goal.returns-clause-can
returns-clause-can c =
    let books = c.args.books.now in
    let tables = c.args.tables.now in
    let l = c.loop-left in
    All-same (Can books tables) l.pool.items (assigned books tables c.args.policy l.left (c.args.paths - l.left)) l.invariant.pool (assigned_can books tables c.args.policy l.left (c.args.paths - l.left) c.requires.policy)
