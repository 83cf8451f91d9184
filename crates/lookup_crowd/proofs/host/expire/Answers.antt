use Rattle.std.proofs.Common.{sym, subst}
use Rattle.lookup_core.specs.declared.state.Lookup.{Lookup}
use Rattle.lookup_crowd.specs.inner.ManySteps.{Expires}
use Rattle.lookup_crowd.proofs.Hosting.{expires_none, expires_one, expires_all, expires_ran}
use Rattle.lookup_crowd.proofs.host.expire.Goals as goal

pub loop-contact-init : goal.loop-contact-init
loop-contact-init g c = expires_none c.args.at c.args.seeker.now c.args.host.now c.requires.holds

pub loop-contact-preserved : goal.loop-contact-preserved
loop-contact-preserved g c =
    expires_one c.args.at c.in-Some.contact c.args.seeker.now c.loop-contact.seeker c.overdue.new.self c.args.host.now c.loop-contact.host c.lost.new.self c.loop-contact.invariant c.in-Some.ensures.some c.lost.ensures.same c.lost.ensures.tells

pub returns-clause-expires : goal.returns-clause-expires
returns-clause-expires g c =
    subst (λ (k : Lookup). Expires c.args.at c.args.seeker.now (record c.loop-contact.seeker { lookup = k })) (sym c.in_default.ensures.same)
    (expires_all c.args.at c.args.seeker.now c.loop-contact.seeker c.args.host.now c.loop-contact.host c.loop-contact.invariant c.in_default.ensures.none)

pub returns-clause-ran : goal.returns-clause-ran
returns-clause-ran g c = expires_ran c.args.at c.args.seeker.now c.loop-contact.seeker c.args.host.now c.loop-contact.host c.loop-contact.invariant c.in_default.ensures.none
