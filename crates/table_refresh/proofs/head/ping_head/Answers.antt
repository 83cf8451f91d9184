use Rattle.std.proofs.Common.{◌≡◌, ◌∙◌, Err, ap}
use Rattle.table_refresh.specs.declared.types.RefreshFault.TheVariants.{LinkFault}
use Rattle.table_refresh.proofs.Trying.{pings_once, pings_twice, ends_again}
use Rattle.kad_base.proofs.Failing.{fails_later}
use Rattle.table_refresh.proofs.head.ping_head.Goals as goal

pub returns-in-Ok-false-clause-ok : goal.returns-in-Ok-false-clause-ok
returns-in-Ok-false-clause-ok g c =
    let p = c.in-Ok-false in
    let ok = rw p.field-0-test at p.ensures.ok in
    pings_once c.args.setting.now (g.G.SealCheck.accepted c.args.seal.now) c.args.head c.args.words.now c.try_head.new.words c.args.work.now c.try_head.new.work _ _ ok

pub returns-in-Ok-false-clause-well : goal.returns-in-Ok-false-clause-well
returns-in-Ok-false-clause-well g c other = c.in-Ok-false.ensures.well (λ e. cc)

pub returns-in-Ok-clause-well : goal.returns-in-Ok-clause-well
returns-in-Ok-clause-well g c other = c.in-Ok.ensures.well (λ e. cc) ∙ c.in-Ok-true.ensures.well (λ e. cc)

pub returns-in-Err-clause-well : goal.returns-in-Err-clause-well
returns-in-Err-clause-well g c other = c.in-Err.ensures.well (λ is. (let fault : c.in-Err.fault ≡ LinkFault = cc in other (ap (λ x. Err x) fault)))

pub returns-in-Err-try_head-clause-well : goal.returns-in-Err-try_head-clause-well
returns-in-Err-try_head-clause-well g c other = c.in-Err-try_head.ensures.well (λ is. (let fault : c.in-Err-try_head.fault ≡ LinkFault = cc in other (ap (λ x. Err x) fault))) ∙ c.in-Ok-true.ensures.well (λ e. cc)

pub returns-in-Ok-clause-ok : goal.returns-in-Ok-clause-ok
returns-in-Ok-clause-ok g c =
    let p = c.in-Ok-true in
    let ok = rw p.field-0-test at p.ensures.ok in
    pings_twice c.args.setting.now (g.G.SealCheck.accepted c.args.seal.now) c.args.head c.args.words.now c.try_head.new.words c.try_head-2.new.words c.args.work.now c.try_head.new.work c.try_head-2.new.work c.in-Ok.field-0 _ _ _ p.ensures.words ok c.in-Ok.ensures.ok

pub returns-in-Err-try_head-clause-ends : goal.returns-in-Err-try_head-clause-ends
returns-in-Err-try_head-clause-ends g c =
    let p = c.in-Ok-true in
    let ok = rw p.field-0-test at p.ensures.ok in
    ends_again c.args.setting.now (g.G.SealCheck.accepted c.args.seal.now) c.args.head c.args.words.now c.try_head.new.words c.try_head-2.new.words c.args.work.now c.try_head.new.work c.try_head-2.new.work.table c.in-Err-try_head.fault _ _ _ p.ensures.words ok c.in-Err-try_head.ensures.ends

pub returns-in-Err-try_head-clause-last : goal.returns-in-Err-try_head-clause-last
returns-in-Err-try_head-clause-last g c is = fails_later _ _ _ _ _ (c.in-Ok-true.ensures.well (λ e. cc)) (c.in-Err-try_head.ensures.last (let fault : c.in-Err-try_head.fault ≡ LinkFault = cc in ap (λ x. Err x) fault))
