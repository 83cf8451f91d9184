use Rattle.std.proofs.Common.{refl}
use Rattle.lookup_commands.proofs.item.spells.Goals as goal

pub returns-in-Ok : goal.returns-in-Ok
returns-in-Ok c = (λ t. c.in-Ok.ensures.spells, λ s. refl)

pub returns-in-Err : goal.returns-in-Err
returns-in-Err c = (λ t. cc t, λ s. cc (c.in-Err.ensures.only s.0 s.1))
