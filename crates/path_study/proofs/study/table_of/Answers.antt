use Rattle.path_study.proofs.Telling.{told_nothing, told_one, has_usable}
use Rattle.path_study.proofs.study.table_of.Goals as goal

pub loop-contact-init : goal.loop-contact-init
loop-contact-init c = told_nothing c.args.own c.args.k c.in_ok-table.table c.in_ok-table.ensures

pub returns : goal.returns
returns c = has_usable c.args.own c.args.k c.loop-contact.table (c.holds_what_it_was_told.ensures.since_new c.args.own c.args.k 1) c.loop-contact.invariant

pub loop-contact-preserved : goal.loop-contact-preserved
loop-contact-preserved c = told_one c.args.own c.args.k c.loop-contact.table c.apply-reply.new.self _ c.apply-reply.result c.loop-contact.invariant (c.is_usable.ensures.0 c.if-not-is_usable.false) c.apply-reply.ensures.after
