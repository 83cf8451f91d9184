use Rattle.std.proofs.Common.{sym, ◌∙◌}
use Rattle.lookup_commands.proofs.Spreading.{theirs_none, theirs_on}
use Rattle.lookup_commands.proofs.spread.theirs.Goals as goal

pub loop-entry-init : goal.loop-entry-init
loop-entry-init c = c.new-asked.ensures ∙ sym (theirs_none c.args.path)

pub loop-entry-preserved : goal.loop-entry-preserved
loop-entry-preserved c = theirs_on c.args.path c.args.journal.now c.loop-entry.entry-index c.entry-item.result c.loop-entry.asked _ c.loop-entry-test.true c.entry-item.is c.loop-entry.invariant c.in_ok-add_theirs.ensures
