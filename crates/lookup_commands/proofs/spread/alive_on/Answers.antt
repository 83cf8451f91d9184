use Rattle.std.proofs.Common.{sym, ◌∙◌}
use Rattle.lookup_commands.proofs.Spreading.{alive_then, path_none}
use Rattle.lookup_commands.proofs.spread.alive_on.Goals as goal

pub loop-entry-init : goal.loop-entry-init
loop-entry-init c = c.new-alive.ensures ∙ sym (path_none c.args.path c.args.gone.now)

pub loop-entry-preserved : goal.loop-entry-preserved
loop-entry-preserved c = alive_then c.args.path c.args.journal.now c.loop-entry.entry-index c.entry-item.result c.args.gone.now c.loop-entry.alive _ c.loop-entry-test.true c.entry-item.is c.loop-entry.invariant c.in_ok-add_alive.ensures
