use Rattle.std.proofs.Common.{◌≡◌}
use Rattle.lookup_commands.specs.Spread.{spread_over}
use Rattle.lookup_commands.proofs.spread.spread_over.Given as goal

abbrev pub invariant-loop-path : goal.invariant-loop-path
invariant-loop-path l = l.found ≡ spread_over l.target l.k l.path l.journal
