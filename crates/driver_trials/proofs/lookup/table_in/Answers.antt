use Rattle.driver_trials.proofs.Trying.{told_nothing, told_one, has_usable}
use Rattle.driver_trials.proofs.lookup.table_in.Goals as goal

pub loop-n-init : goal.loop-n-init
loop-n-init c = told_nothing c.args.own c.in_ok-table.table c.in_ok-table.ensures

pub loop-n-preserved : goal.loop-n-preserved
loop-n-preserved c = told_one c.args.own c.loop-n.table c.apply-reply.new.self c.at_in-contact.result c.apply-reply.result c.loop-n.invariant (c.is_usable.ensures.0 c.if-not-is_usable.false) c.apply-reply.ensures.after

pub returns : goal.returns
returns c = has_usable c.args.own c.loop-n.table (c.holds_what_it_was_told.ensures.since_new c.args.own 8 1) c.loop-n.invariant
