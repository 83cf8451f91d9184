use Rattle.std.proofs.Common.{subst, ◌∙◌, refl, sym, inr, arith, rules, ◌≡◌, Err, ap}
use Rattle.kad_base.specs.Outside.{Happens}
use Rattle.serve_batches.specs.Serving.{ServesBatch}
use Rattle.serve_batches.proofs.Batching.{served_none, served_more, served_stops, roles_none, roles_more, can_by_roles}
use Rattle.kad_base.proofs.Failing.{fails_later}
use Rattle.node_serve.specs.declared.service.ServeFault.TheVariants.{LinkFault}
use Rattle.serve_batches.proofs.batch.serve_each.Goals as goal

pub loop-progress-init : goal.loop-progress-init
loop-progress-init g c = record {
  setting = refl;
  len = refl;
  roomy = c.requires.roomy;
  roles = roles_none c.args.crew.now.items;
  few = c.requires.few;
  fewer = c.requires.fewer;
  served = served_none (g.G.Seal.tag_of c.args.service.now.seal.now) c.args.service.now.end c.args.setting.now c.args.progress.now c.args.crew.now.items _;
  faults = search rules;
  well = refl;
  kept = refl;
}

pub serve_batch-requires-clause-can : goal.serve_batch-requires-clause-can
serve_batch-requires-clause-can g c = can_by_roles c.args.service.now.turns.now c.args.crew.now.items c.loop-progress.crew.items c.loop-progress.invariant.len c.loop-progress.invariant.roles c.requires.can

pub serve_batch-requires-clause-goes : goal.serve_batch-requires-clause-goes
serve_batch-requires-clause-goes g c = sym c.is_over.ensures ∙ c.if-is_over.false

pub returns-then-is_over-clause-all : goal.returns-then-is_over-clause-all
returns-then-is_over-clause-all g c = inr (sym c.is_over.ensures ∙ c.if-is_over.true)

pub loop-progress-preserved : goal.loop-progress-preserved
loop-progress-preserved g c =
    let i = c.loop-progress.invariant in
    let few = i.few in
    let counts = c.in-Ok.ensures.counts in
    let faults = i.faults in
    let more = c.serve_batch.ensures.recv_faults in
    record {
      setting = c.serve_batch.ensures.setting ∙ i.setting;
      len = c.serve_batch.ensures.len ∙ i.len;
      roomy = c.serve_batch.ensures.roomy;
      roles = roles_more c.args.crew.now.items c.loop-progress.crew.items c.serve_batch.new.crew.items i.len i.roles c.serve_batch.ensures.roles;
      few = omega (arith, few, counts);
      fewer = c.in-Ok.ensures.fewer;
      served = served_more (g.G.Seal.tag_of c.args.service.now.seal.now) c.args.service.now.end c.args.setting.now c.args.progress.now c.loop-progress.progress c.serve_batch.new.progress c.args.crew.now.items c.loop-progress.crew.items c.serve_batch.new.crew.items _ _ _ i.len i.roles i.served
          (subst (λ s. Happens (g.L.Link.told c.loop-progress.link) (g.L.Link.told c.serve_batch.new.link) (ServesBatch (g.G.Seal.tag_of c.args.service.now.seal.now) c.args.service.now.end s c.loop-progress.progress c.serve_batch.new.progress c.loop-progress.crew.items c.serve_batch.new.crew.items)) i.setting c.in-Ok.ensures.ok);
      faults = omega (arith, faults, more);
      well = c.serve_batch.ensures.well (λ e. cc) ∙ i.well;
      kept = c.serve_batch.ensures.kept ∙ i.kept;
    }

pub returns-in-Err-clause-err : goal.returns-in-Err-clause-err
returns-in-Err-clause-err g c =
    let i = c.loop-progress.invariant in
    served_stops (g.G.Seal.tag_of c.args.service.now.seal.now) c.args.service.now.end c.args.setting.now c.args.progress.now c.loop-progress.progress c.args.crew.now.items c.loop-progress.crew.items c.serve_batch.new.crew.items c.in-Err.fault _ _ _ i.len i.roles i.served c.in-Err.ensures.err c.serve_batch.ensures.grew

pub returns-in-Err-clause-roles : goal.returns-in-Err-clause-roles
returns-in-Err-clause-roles g c =
    let i = c.loop-progress.invariant in
    roles_more c.args.crew.now.items c.loop-progress.crew.items c.serve_batch.new.crew.items i.len i.roles c.serve_batch.ensures.roles

pub returns-in-Err-clause-last : goal.returns-in-Err-clause-last
returns-in-Err-clause-last g c is = fails_later _ _ _ _ _ c.loop-progress.invariant.well (c.in-Err.ensures.last (let fault : c.in-Err.fault ≡ LinkFault = cc in ap (λ x. Err x) fault))
