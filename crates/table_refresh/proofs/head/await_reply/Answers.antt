use Rattle.std.proofs.Common.{◌≡◌, ◌∙◌, Err, ap, rules, arith}
use Rattle.table_refresh.specs.declared.types.RefreshFault.TheVariants.{LinkFault}
use Rattle.table_refresh.specs.declared.types.Tried.TheVariants.{Waits, Over}
use Rattle.table_refresh.proofs.Trying.{waits_more, waits_end}
use Rattle.kad_base.proofs.Failing.{fails_later}
use Rattle.table_refresh.proofs.head.await_reply.Goals as goal

pub waiting-preserved : goal.waiting-preserved
waiting-preserved g c =
    let p = c.in-Ok-Waits in
    let ok = rw p.field-0-is at p.ensures.ok in
    record {
      so_far = waits_more c.args.setting.now (g.G.SealCheck.accepted c.args.seal.now) c.args.query.now c.args.work.now c.waiting.work c.receive.new.work Waits _ _ _ c.waiting.invariant.so_far ok;
      room = search rules;
      few = p.ensures.few;
      faults = (let a = c.waiting.invariant.faults in let b = c.receive.ensures.recv_faults in omega (arith, a, b));
      well = p.ensures.well (λ e. cc) ∙ c.waiting.invariant.well;
      kept = search rules;
    }

pub returns-in-Ok-Over-clause-ok : goal.returns-in-Ok-Over-clause-ok
returns-in-Ok-Over-clause-ok g c =
    let p = c.in-Ok-Over in
    let ok = rw p.field-0-is at p.ensures.ok in
    waits_more c.args.setting.now (g.G.SealCheck.accepted c.args.seal.now) c.args.query.now c.args.work.now c.waiting.work c.receive.new.work (Over p.kept) _ _ _ c.waiting.invariant.so_far ok

pub returns-in-Ok-Over-clause-well : goal.returns-in-Ok-Over-clause-well
returns-in-Ok-Over-clause-well g c other = c.in-Ok-Over.ensures.well (λ e. cc) ∙ c.waiting.invariant.well

pub returns-in-Err-clause-well : goal.returns-in-Err-clause-well
returns-in-Err-clause-well g c other = c.in-Err.ensures.well (λ is. (let fault : c.in-Err.fault ≡ LinkFault = cc in other (ap (λ x. Err x) fault))) ∙ c.waiting.invariant.well

pub returns-in-Err-clause-ends : goal.returns-in-Err-clause-ends
returns-in-Err-clause-ends g c =
    waits_end c.args.setting.now (g.G.SealCheck.accepted c.args.seal.now) c.args.query.now c.args.work.now c.waiting.work c.receive.new.work.table c.in-Err.fault _ _ _ c.waiting.invariant.so_far c.waiting.invariant.few c.in-Err.ensures.table c.in-Err.ensures.stops

pub returns-in-Err-clause-last : goal.returns-in-Err-clause-last
returns-in-Err-clause-last g c is = fails_later _ _ _ _ _ c.waiting.invariant.well (c.in-Err.ensures.last (let fault : c.in-Err.fault ≡ LinkFault = cc in ap (λ x. Err x) fault))
