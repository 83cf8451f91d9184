use Rattle.std.proofs.Common.{sym, ◌∙◌}
use Rattle.lookup_commands.proofs.Spreading.{failed_none, failed_on}
use Rattle.lookup_commands.proofs.spread.lost.Goals as goal

pub loop-entry-init : goal.loop-entry-init
loop-entry-init c = c.new-lost.ensures ∙ sym failed_none

pub loop-entry-preserved : goal.loop-entry-preserved
loop-entry-preserved c = failed_on c.args.journal.now c.loop-entry.entry-index c.entry-item.result c.loop-entry.lost _ c.loop-entry-test.true c.entry-item.is c.loop-entry.invariant c.in_ok-add_lost.ensures
