use Rattle.lookup_commands.proofs.Spreading.{spread_is}
use Rattle.lookup_commands.proofs.spread.is_spread.Goals as goal

pub returns : goal.returns
returns c = spread_is
