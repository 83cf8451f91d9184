use Rattle.std.proofs.Common.{refl, sym, subst, ◌≡◌}
use Rattle.kad_words.specs.declared.command.Command.TheVariants.{Sim}
use Rattle.command_base.specs.Called.{called_with}
use Rattle.command_base.specs.Promise.{UnreadCause}
use Rattle.command_base.specs.Shown.{shown}
use Rattle.node_top.proofs.Causes.{cause_at, ranges_at, text_at}
use Rattle.command_base.proofs.Results.{ok_then, err_then, err_at}
use Rattle.plain_commands.proofs.Minting.{mint_cause}
use Rattle.command_base.specs.declared.status.Status.TheVariants.{SourceFault, NoMemory}
use Rattle.node_top.proofs.commands.plain_output_of.Goals as goal

pub returns-in-Check-clause-cause : goal.returns-in-Check-clause-cause
returns-in-Check-clause-cause g c = λ slow accepts tags link. cause_at c.check.result _ _ link _ _ (sym c.in-Check.is) (c.check.ensures.cause (called_with c.args.call.now.random slow accepts tags) link)

pub returns-in-Table-clause-cause : goal.returns-in-Table-clause-cause
returns-in-Table-clause-cause g c = λ slow accepts tags link. cause_at c.table.result _ _ link _ _ (sym c.in-Table.is) (c.table.ensures.cause (called_with c.args.call.now.random slow accepts tags) link)

pub returns-in-Mint-clause-ok : goal.returns-in-Mint-clause-ok
returns-in-Mint-clause-ok g c = λ slow accepts tags link.
    text_at c.mint.result (called_with c.args.call.now.random slow accepts tags) _ link _ _ (sym c.in-Mint.is) (ok_then c.mint.result _ _ c.mint.ensures.ok (λ text t. (t, refl)))

pub returns-in-Mint-clause-cause : goal.returns-in-Mint-clause-cause
returns-in-Mint-clause-cause g c = λ slow accepts tags link.
    let called = called_with c.args.call.now.random slow accepts tags in
    let source = shown g.S.Source.left g.S.Source.faults c.args.source.now c.args.source.now in
    cause_at c.mint.result called source link _ _ (sym c.in-Mint.is) (err_then c.mint.result _ _ c.mint.ensures.cause (λ status h. mint_cause c.in-Mint.words called source link refl status h))

pub sim-requires : goal.sim-requires
sim-requires g c = ranges_at _ (Sim c.in-Sim.words) c.in-Sim.is c.requires.ranges c.args.call.now.random

pub returns-in-Sim-clause-ok : goal.returns-in-Sim-clause-ok
returns-in-Sim-clause-ok g c = λ slow accepts tags link.
    text_at c.sim.result (called_with c.args.call.now.random slow accepts tags) _ link _ _ (sym c.in-Sim.is) (ok_then c.sim.result _ _ c.sim.ensures.ok (λ text t. (t, refl)))

pub returns-in-Sim-clause-cause : goal.returns-in-Sim-clause-cause
returns-in-Sim-clause-cause g c = λ slow accepts tags link.
    let source = shown g.S.Source.left g.S.Source.faults c.args.source.now c.args.source.now in
    cause_at c.sim.result (called_with c.args.call.now.random slow accepts tags) source link _ _ (sym c.in-Sim.is)
    (err_then c.sim.result _ _ c.sim.ensures.cause (λ status same. subst (UnreadCause ⊥ source) (sym same) tt))

pub returns-in-Mint-clause-reads_last : goal.returns-in-Mint-clause-reads_last
returns-in-Mint-clause-reads_last g c is = absurd (err_at c.mint.result SourceFault _ is c.mint.ensures.cause)

pub returns-in-Sim-clause-reads_last : goal.returns-in-Sim-clause-reads_last
returns-in-Sim-clause-reads_last g c is =
    let e : SourceFault ≡ NoMemory = err_at c.sim.result SourceFault (λ s. s ≡ NoMemory) is c.sim.ensures.cause in
    absurd cc
