use Rattle.std.proofs.Common.{◌≤◌, take, inl, inr, subst}
use Rattle.kad_base.proofs.Grown.{grows_weaker}
use Rattle.lookup_crowd.specs.declared.seeker.ManyFault.TheVariants.{LinkFault, Strays}
use Rattle.lookup_crowd.specs.inner.Crowd.{stand}
use Rattle.lookup_crowd.specs.inner.ManySteps.{owed_in}
use Rattle.lookup_crowd.proofs.Counting.{may_count, may_count_foreign}
use Rattle.lookup_crowd.proofs.Heard.{same_seats, expired_seats}
use Rattle.lookup_crowd.proofs.Telling.{got_on, got_advances, got_received, got_may_count, got_later, quiet_advances, quiet_received, quiet_later, stops_early, ends_by_foreign, err_moved, not_fault}
use Rattle.kad_base.proofs.Failing.{fails_here}
use Rattle.lookup_crowd.proofs.receive.receive_until.Goals as goal

pub came-requires-clause-room : goal.came-requires-clause-room
came-requires-clause-room g c = may_count_foreign c.args.seekers.now c.args.driver.now.progress c.args.until c.args.busy c.requires.may

pub came-requires-clause-few_received : goal.came-requires-clause-few_received
came-requires-clause-few_received g c = may_count c.args.seekers.now c.args.driver.now.progress c.args.until c.args.busy c.requires.may

pub count_reply-requires : goal.count_reply-requires
count_reply-requires g c =
    let p = c.in-Ok-Packet in
    got_may_count (g.G.SealCheck.accepted c.args.site.now.seal.now) (g.G.Seal.tag_of c.args.site.now.seal.now) c.args.site.now.desk.setting.now c.args.busy p.from (take p.len c.recv.new.buf) c.args.until p.at c.args.seekers.now c.came.new.seekers c.args.driver.now.progress c.came.new.driver.progress c.args.driver.now.host c.came.new.driver.host (owed_in c.in-Ok.reply p.from c.came.new.out) c.requires.may c.in-Ok.ensures.ok

pub returns-in-Ok-clause-goes : goal.returns-in-Ok-clause-goes
returns-in-Ok-clause-goes g c words =
    let p = c.in-Ok-Packet in
    let bytes = take p.len c.recv.new.buf in
    let accepts = g.G.SealCheck.accepted c.args.site.now.seal.now in
    let tags = g.G.Seal.tag_of c.args.site.now.seal.now in
    let owed = owed_in c.in-Ok.reply p.from c.came.new.out in
    let was_sent = c.pay-was_sent.result in
    let grows = rw p.field-0-is at p.ensures.ok in
    got_advances accepts tags c.args.site.now.desk.setting.now c.args.busy p.from bytes c.args.until p.at c.args.seekers.now c.came.new.seekers c.args.driver.now.progress c.came.new.driver.progress c.count_reply.new.progress c.args.driver.now.host c.came.new.driver.host owed was_sent words (g.L.Link.told c.args.link.now) (g.L.Link.told c.recv.new.self) (g.L.Link.told c.pay-was_sent.new.link) c.count_reply.ensures
    (got_on accepts tags c.args.site.now.desk.setting.now c.args.busy p.from bytes c.args.until p.at c.args.seekers.now c.came.new.seekers c.args.driver.now.progress c.came.new.driver.progress c.args.driver.now.host c.came.new.driver.host owed c.in-Ok.ensures.ok c.requires.may) grows c.pay-was_sent.ensures.pays

pub returns-in-Ok-clause-received : goal.returns-in-Ok-clause-received
returns-in-Ok-clause-received g c =
    let p = c.in-Ok-Packet in
    got_received (g.G.SealCheck.accepted c.args.site.now.seal.now) (g.G.Seal.tag_of c.args.site.now.seal.now) c.args.site.now.desk.setting.now c.args.busy p.from (take p.len c.recv.new.buf) c.args.until p.at c.args.seekers.now c.came.new.seekers c.args.driver.now.progress c.came.new.driver.progress c.count_reply.new.progress c.args.driver.now.host c.came.new.driver.host (owed_in c.in-Ok.reply p.from c.came.new.out) c.pay-was_sent.result c.count_reply.ensures c.requires.may c.in-Ok.ensures.ok

pub returns-in-Ok-Quiet-clause-goes : goal.returns-in-Ok-Quiet-clause-goes
returns-in-Ok-Quiet-clause-goes g c words =
    let p = c.in-Ok-Quiet in
    let grows = rw p.field-0-is at p.ensures.ok in
    quiet_advances (g.G.SealCheck.accepted c.args.site.now.seal.now) (g.G.Seal.tag_of c.args.site.now.seal.now) c.args.site.now.desk.setting.now c.args.busy c.args.until p.at c.args.seekers.now c.none_came.new.seekers c.args.driver.now.progress c.none_came.new.driver.progress c.args.driver.now.host c.none_came.new.driver.host words (g.L.Link.told c.args.link.now) (g.L.Link.told c.recv.new.self) c.requires.may c.none_came.ensures.passes grows

pub returns-in-Ok-Quiet-clause-received : goal.returns-in-Ok-Quiet-clause-received
returns-in-Ok-Quiet-clause-received g c =
    quiet_received c.args.busy c.args.until c.in-Ok-Quiet.at c.args.seekers.now c.none_came.new.seekers c.args.driver.now.progress c.none_came.new.driver.progress c.args.driver.now.host c.none_came.new.driver.host c.requires.may c.none_came.ensures.passes

pub returns-in-Err-came-clause-stops : goal.returns-in-Err-came-clause-stops
returns-in-Err-came-clause-stops g c words =
    let p = c.in-Ok-Packet in
    let fault = c.in-Err-came.fault in
    let grows = rw p.field-0-is at p.ensures.ok in
    stops_early c.args.busy fault (g.G.SealCheck.accepted c.args.site.now.seal.now) (g.G.Seal.tag_of c.args.site.now.seal.now) c.args.site.now.desk.setting.now (stand c.args.seekers.now c.args.driver.now.progress words c.args.driver.now.host _) _
    (grows_weaker _ _ _ _ grows (λ es is. inr (not_fault fault LinkFault c.in-Err-came.ensures.link, p.from, take p.len c.recv.new.buf, c.args.until, p.at, is)))

pub returns-in-Err-came-clause-strays : goal.returns-in-Err-came-clause-strays
returns-in-Err-came-clause-strays g c is words =
    let p = c.in-Ok-Packet in
    let grows = rw p.field-0-is at p.ensures.ok in
    ends_by_foreign c.args.busy (g.G.SealCheck.accepted c.args.site.now.seal.now) (g.G.Seal.tag_of c.args.site.now.seal.now) c.args.site.now.desk.setting.now p.from (take p.len c.recv.new.buf) c.args.until p.at (stand c.args.seekers.now c.args.driver.now.progress words c.args.driver.now.host _) _ c.requires.may (c.in-Err-came.ensures.strays (err_moved c.in-Err-came.fault Strays is)) grows

pub returns-in-Err-clause-stops : goal.returns-in-Err-clause-stops
returns-in-Err-clause-stops g c words =
    stops_early c.args.busy LinkFault (g.G.SealCheck.accepted c.args.site.now.seal.now) (g.G.Seal.tag_of c.args.site.now.seal.now) c.args.site.now.desk.setting.now (stand c.args.seekers.now c.args.driver.now.progress words c.args.driver.now.host _) _ (grows_weaker _ _ _ _ c.in-Err.ensures.err (λ es is. inl is))

pub returns-in-Err-came-clause-busy : goal.returns-in-Err-came-clause-busy
returns-in-Err-came-clause-busy g c is = (c.in-Err-came.ensures.strays (err_moved c.in-Err-came.fault Strays is)).is_open

pub returns-in-Ok-clause-later : goal.returns-in-Ok-clause-later
returns-in-Ok-clause-later g c =
    let p = c.in-Ok-Packet in
    let came = rw p.field-0-is at p.ensures.came in
    got_later (g.G.SealCheck.accepted c.args.site.now.seal.now) (g.G.Seal.tag_of c.args.site.now.seal.now) c.args.site.now.desk.setting.now c.args.busy p.from (take p.len c.recv.new.buf) p.at c.args.seekers.now c.came.new.seekers c.args.driver.now.progress c.came.new.driver.progress c.count_reply.new.progress c.args.driver.now.host c.came.new.driver.host (owed_in c.in-Ok.reply p.from c.came.new.out) c.pay-was_sent.result c.count_reply.ensures c.in-Ok.ensures.ok (subst (λ m. m ≤ p.at) c.requires.moment came.1)

pub returns-in-Ok-Quiet-clause-later : goal.returns-in-Ok-Quiet-clause-later
returns-in-Ok-Quiet-clause-later g c =
    let p = c.in-Ok-Quiet in
    let came = rw p.field-0-is at p.ensures.came in
    quiet_later p.at c.args.seekers.now c.none_came.new.seekers c.args.driver.now.progress c.none_came.new.driver.progress c.args.driver.now.host c.none_came.new.driver.host c.none_came.ensures.passes (subst (λ m. m ≤ p.at) c.requires.moment came.1)

pub returns-in-Ok-Quiet-clause-seats : goal.returns-in-Ok-Quiet-clause-seats
returns-in-Ok-Quiet-clause-seats g c = expired_seats c.in-Ok-Quiet.at c.args.seekers.now c.none_came.new.seekers c.none_came.ensures.passes.expires

pub returns-in-Err-clause-seats : goal.returns-in-Err-clause-seats
returns-in-Err-clause-seats g c = same_seats c.args.seekers.now

pub returns-in-Err-clause-last : goal.returns-in-Err-clause-last
returns-in-Err-clause-last g c is = fails_here _ _ _ _ c.in-Err.ensures.failed c.in-Err.ensures.err
