use Rattle.command_base.proofs.Starting.{told_none, told_more}
use Rattle.command_base.proofs.bootstrap.table_of.Goals as goal

pub loop-contact-init : goal.loop-contact-init
loop-contact-init c = told_none _ _ c.in_ok-table.ensures

pub loop-contact-preserved : goal.loop-contact-preserved
loop-contact-preserved c = told_more c.args.contacts.now c.loop-contact.contact-index _ _ c.loop-contact.table c.notify_seen.new.table c.loop-contact-test.true c.loop-contact.invariant c.in_ok-notify_seen.ensures
