use Rattle.std.proofs.Common.{refl, sym, subst}
use Rattle.lookup_core.specs.declared.state.Lookup.{Lookup}
use Rattle.lookup_run.specs.declared.types.LookupState.{LookupState}
use Rattle.lookup_run.specs.inner.RoundSteps.{Expires}
use Rattle.lookup_run.proofs.Expiring.{none_expired, oldest_expires, all_expired}
use Rattle.lookup_run.proofs.on_reply.expire.Goals as goal

pub loop-contact-init : goal.loop-contact-init
loop-contact-init c = none_expired c.args.at c.args.work.now c.requires

pub overdue-requires : goal.overdue-requires
overdue-requires c = c.loop-contact.invariant.one.holds

pub loop-contact-preserved : goal.loop-contact-preserved
loop-contact-preserved c =
    let w : LookupState = c.loop-contact.work in
    let v : LookupState = record w { lookup = c.overdue.new.self; table = c.notify_failed.new.table } in
    oldest_expires c.args.at c.args.work.now w v c.in-Some.contact c.loop-contact.invariant c.in-Some.ensures.some c.notify_failed.ensures refl refl

pub returns : goal.returns
returns c =
    let w : LookupState = c.loop-contact.work in
    subst (λ (k : Lookup). Expires c.args.at c.args.work.now (record w { lookup = k })) (sym c.in_default.ensures.same)
    (all_expired c.args.at c.args.work.now w c.loop-contact.invariant c.in_default.ensures.none)
