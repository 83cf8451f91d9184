use Rattle.std.proofs.Common.{◌≡◌, ◌∙◌, Err, ap, arith}
use Rattle.table_refresh.specs.declared.types.RefreshFault.TheVariants.{LinkFault}
use Rattle.table_refresh.proofs.Wholly.{pings_next, ends_next}
use Rattle.kad_base.proofs.Failing.{fails_later}
use Rattle.table_refresh.proofs.refreshing.ping_all.Goals as goal

pub returns-in-Err-clause-ends : goal.returns-in-Err-clause-ends
returns-in-Err-clause-ends g c =
    let i = c.loop-head.invariant in
    ends_next c.args.setting.now (g.G.SealCheck.accepted c.args.seal.now) c.args.due.now c.loop-head.head-index _ c.args.words.now c.loop-head.words c.ping_head.new.words c.args.work.now c.loop-head.work c.ping_head.new.work.table c.in-Err.fault _ _ _
    (omega arith) i.seed i.so_far c.in-Err.ensures.ends

pub returns-in-Err-clause-well : goal.returns-in-Err-clause-well
returns-in-Err-clause-well g c other = c.in-Err.ensures.well (λ is. (let fault : c.in-Err.fault ≡ LinkFault = cc in other (ap (λ x. Err x) fault))) ∙ c.loop-head.invariant.well

pub loop-head-preserved : goal.loop-head-preserved
loop-head-preserved g c =
    let i = c.loop-head.invariant in
    record {
      so_far = pings_next c.args.setting.now (g.G.SealCheck.accepted c.args.seal.now) c.args.due.now c.loop-head.head-index _ c.args.words.now c.loop-head.words c.ping_head.new.words c.args.work.now c.loop-head.work c.ping_head.new.work _ _ _ (omega arith) i.seed i.so_far c.in-Ok.ensures.ok;
      few = c.in-Ok.ensures.few;
      seed = c.ping_head.ensures.seed ∙ i.seed;
      place = (let a = i.place in let b = c.ping_head.ensures.place in omega (arith, a, b));
      faults = (let a = i.faults in let b = c.ping_head.ensures.recv_faults in omega (arith, a, b));
      well = c.in-Ok.ensures.well (λ e. cc) ∙ i.well;
      kept = c.ping_head.ensures.kept ∙ i.kept;
    }

pub returns-in-Err-clause-last : goal.returns-in-Err-clause-last
returns-in-Err-clause-last g c is = fails_later _ _ _ _ _ c.loop-head.invariant.well (c.in-Err.ensures.last (let fault : c.in-Err.fault ≡ LinkFault = cc in ap (λ x. Err x) fault))
