use Rattle.std.proofs.Common.{ap, sym, ◌∙◌, arith}
use Rattle.std.specs.Prelude.{insert}
use Rattle.kad_distance.proofs.Least.{take_insert}
use Rattle.kad_distance.proofs.closest.insert_at.Goals as goal

pub returns-clause-items : goal.returns-clause-items
returns-clause-items c =
    c.in-Ok.ensures.items
    ∙ ap (λ l. insert l c.args.at c.args.contact.now) c.truncate.ensures.items
    ∙ sym (take_insert c.args.at c.args.k c.args.near.now.items c.args.contact.now c.requires.within (grind (arith, c.requires.at)))
