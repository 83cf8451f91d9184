use Rattle.std.proofs.Common.{subst, sym}
use Rattle.lookup_core.specs.Gathered.{IsEachOnce}
use Rattle.lookup_core.proofs.InOrder.{each_once}
use Rattle.lookup_core.proofs.gather.in_order.Goals as goal

pub returns : goal.returns
returns c =
    let e = c.each_once-items.ensures in
    let whole = c.into_vec.ensures in
    subst (IsEachOnce c.args.peers) (sym c.from_vec.ensures)
    (subst (λ l. IsEachOnce l c.each_once-items.result.items) whole (each_once c.into_vec.result.items c.each_once-items.result.items e.in_order e.of_list e.all))
