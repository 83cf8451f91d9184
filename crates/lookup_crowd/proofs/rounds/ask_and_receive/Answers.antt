use Rattle.std.proofs.Common.{◌≡◌, ◌∙◌, Err, ap, refl}
use Rattle.std.specs.Prelude.{IsErrOf}
use Rattle.lookup_crowd.specs.declared.seeker.ManyFault.{ManyFault}
use Rattle.lookup_crowd.specs.declared.seeker.ManyFault.TheVariants.{Strays, LinkFault}
use Rattle.lookup_crowd.specs.inner.Crowd.{stand}
use Rattle.lookup_crowd.proofs.Gone.{gone_asked, gone_received, gone_then, ends_asked, ends_received, ends_behind, begins_asked, over_of, await_of, received_of, seats_of, seats_then}
use Rattle.kad_base.proofs.Failing.{fails_later}
use Rattle.lookup_crowd.proofs.Losing.{loses_none, loses_then, lost_heard}
use Rattle.lookup_crowd.proofs.rounds.ask_and_receive.Goals as goal

pub returns-in-Err-clause-seats : goal.returns-in-Err-clause-seats
returns-in-Err-clause-seats g c = seats_of _ _ (c.ask_all.ensures.asks (g.G.SealCheck.accepted c.args.site.now.seal.now) (g.G.Seal.tag_of c.args.site.now.seal.now) c.args.site.now.desk.setting.now c.args.driver.now.host).seats

pub returns-in-Err-clause-ends : goal.returns-in-Err-clause-ends
returns-in-Err-clause-ends g c =
    let accepts = g.G.SealCheck.accepted c.args.site.now.seal.now in
    let tags = g.G.Seal.tag_of c.args.site.now.seal.now in
    let server = c.args.site.now.desk.setting.now in
    ends_asked accepts tags server (stand c.args.seekers.now c.args.driver.now.progress c.args.words.now c.args.driver.now.host (g.L.Link.told c.args.link.now)) (stand c.ask_all.new.seekers c.args.driver.now.progress c.ask_all.new.words c.args.driver.now.host (g.L.Link.told c.ask_all.new.link)) _ _ refl (c.ask_all.ensures.asks accepts tags server c.args.driver.now.host) c.all_legal.ensures

pub returns-in-None-clause-seats : goal.returns-in-None-clause-seats
returns-in-None-clause-seats g c = seats_of _ _ (c.ask_all.ensures.asks (g.G.SealCheck.accepted c.args.site.now.seal.now) (g.G.Seal.tag_of c.args.site.now.seal.now) c.args.site.now.desk.setting.now c.args.driver.now.host).seats

pub returns-in-None-clause-goes : goal.returns-in-None-clause-goes
returns-in-None-clause-goes g c =
    let accepts = g.G.SealCheck.accepted c.args.site.now.seal.now in
    let tags = g.G.Seal.tag_of c.args.site.now.seal.now in
    let server = c.args.site.now.desk.setting.now in
    gone_asked accepts tags server _ _ _ _ refl (c.ask_all.ensures.asks accepts tags server c.args.driver.now.host)

pub returns-in-None-clause-over : goal.returns-in-None-clause-over
returns-in-None-clause-over g c = λ e.
    let accepts = g.G.SealCheck.accepted c.args.site.now.seal.now in
    let tags = g.G.Seal.tag_of c.args.site.now.seal.now in
    let server = c.args.site.now.desk.setting.now in
    let begins = begins_asked accepts tags server _ _ _ _ (c.ask_all.ensures.asks accepts tags server c.args.driver.now.host) c.requires.begins in
    over_of _ begins c.in-Ok.ensures.none c.in-None.ensures

pub receive_round-requires-clause-may : goal.receive_round-requires-clause-may
receive_round-requires-clause-may g c =
    let accepts = g.G.SealCheck.accepted c.args.site.now.seal.now in
    let tags = g.G.Seal.tag_of c.args.site.now.seal.now in
    let server = c.args.site.now.desk.setting.now in
    let begins = begins_asked accepts tags server _ _ _ _ (c.ask_all.ensures.asks accepts tags server c.args.driver.now.host) c.requires.begins in
    await_of (stand c.ask_all.new.seekers c.args.driver.now.progress c.ask_all.new.words c.args.driver.now.host (g.L.Link.told c.ask_all.new.link)) c.in-Some.field-0 begins c.in-Ok.ensures.none c.in-Some.ensures

pub returns-in-Ok-receive_round-clause-seats : goal.returns-in-Ok-receive_round-clause-seats
returns-in-Ok-receive_round-clause-seats g c =
    seats_then c.args.seekers.now c.ask_all.new.seekers c.receive_round.new.seekers (seats_of _ _ (c.ask_all.ensures.asks (g.G.SealCheck.accepted c.args.site.now.seal.now) (g.G.Seal.tag_of c.args.site.now.seal.now) c.args.site.now.desk.setting.now c.args.driver.now.host).seats) (seats_of _ _ c.receive_round.ensures.seats)

pub returns-in-Ok-receive_round-clause-goes : goal.returns-in-Ok-receive_round-clause-goes
returns-in-Ok-receive_round-clause-goes g c =
    let accepts = g.G.SealCheck.accepted c.args.site.now.seal.now in
    let tags = g.G.Seal.tag_of c.args.site.now.seal.now in
    let server = c.args.site.now.desk.setting.now in
    gone_then accepts tags server _ (stand c.ask_all.new.seekers c.args.driver.now.progress c.ask_all.new.words c.args.driver.now.host (g.L.Link.told c.ask_all.new.link)) _ _ _ _
    (gone_asked accepts tags server _ _ _ _ refl (c.ask_all.ensures.asks accepts tags server c.args.driver.now.host))
    (gone_received accepts tags server _ _ _ refl c.receive_round.ensures.same (c.in-Ok-receive_round.ensures.goes c.ask_all.new.words) c.in-Ok-receive_round.ensures.received)

pub returns-in-Ok-receive_round-clause-received : goal.returns-in-Ok-receive_round-clause-received
returns-in-Ok-receive_round-clause-received g c = λ e.
    let accepts = g.G.SealCheck.accepted c.args.site.now.seal.now in
    let tags = g.G.Seal.tag_of c.args.site.now.seal.now in
    let server = c.args.site.now.desk.setting.now in
    let begins = begins_asked accepts tags server _ _ _ _ (c.ask_all.ensures.asks accepts tags server c.args.driver.now.host) c.requires.begins in
    received_of (stand c.ask_all.new.seekers c.args.driver.now.progress c.ask_all.new.words c.args.driver.now.host (g.L.Link.told c.ask_all.new.link)) _ begins refl c.in-Ok-receive_round.ensures.received c.in-Ok-receive_round.ensures.over

pub returns-in-Err-receive_round-clause-seats : goal.returns-in-Err-receive_round-clause-seats
returns-in-Err-receive_round-clause-seats g c =
    seats_then c.args.seekers.now c.ask_all.new.seekers c.receive_round.new.seekers (seats_of _ _ (c.ask_all.ensures.asks (g.G.SealCheck.accepted c.args.site.now.seal.now) (g.G.Seal.tag_of c.args.site.now.seal.now) c.args.site.now.desk.setting.now c.args.driver.now.host).seats) (seats_of _ _ c.receive_round.ensures.seats)

pub returns-in-Err-receive_round-clause-ends : goal.returns-in-Err-receive_round-clause-ends
returns-in-Err-receive_round-clause-ends g c =
    let accepts = g.G.SealCheck.accepted c.args.site.now.seal.now in
    let tags = g.G.Seal.tag_of c.args.site.now.seal.now in
    let server = c.args.site.now.desk.setting.now in
    let is_fault : c.in-Err-receive_round.fault ≡ Strays → IsErrOf c.receive_round.result Strays = λ e. c.in-Err-receive_round.is ∙ ap (λ (x : ManyFault). Err x) e in
    let mid = stand c.ask_all.new.seekers c.args.driver.now.progress c.ask_all.new.words c.args.driver.now.host (g.L.Link.told c.ask_all.new.link) in
    ends_behind accepts tags server c.in-Err-receive_round.fault _ mid _ _ _ _ _
    (gone_asked accepts tags server _ mid _ _ refl (c.ask_all.ensures.asks accepts tags server c.args.driver.now.host))
    (ends_received accepts tags server c.in-Err-receive_round.fault mid _ _ (λ is. c.receive_round.ensures.strays (is_fault is) c.ask_all.new.words) (c.in-Err-receive_round.ensures.stops c.ask_all.new.words))

pub returns-in-Err-receive_round-clause-last : goal.returns-in-Err-receive_round-clause-last
returns-in-Err-receive_round-clause-last g c is = fails_later _ _ _ _ _ c.ask_all.ensures.recv_faults (c.in-Err-receive_round.ensures.last (let fault : c.in-Err-receive_round.fault ≡ LinkFault = cc in ap (λ x. Err x) fault))

pub returns-in-Ok-receive_round-clause-loses : goal.returns-in-Ok-receive_round-clause-loses
returns-in-Ok-receive_round-clause-loses g c = loses_then c.args.seekers.now c.ask_all.new.seekers c.receive_round.new.seekers _ _ _ c.ask_all.ensures.loses (loses_none _ _ _ _ (lost_heard _ _ c.in-Ok-receive_round.ensures.received.only_heard) c.receive_round.ensures.send_faults)
