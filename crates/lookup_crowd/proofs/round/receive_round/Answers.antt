use Rattle.std.proofs.Common.{[], ◌∙◌, rules, true, ◌≡◌, Err, ap, arith}
use Rattle.serve_crew.proofs.Growing.{same_more}
use Rattle.lookup_crowd.specs.inner.Crowd.{stand}
use Rattle.lookup_crowd.proofs.Heard.{seats_then}
use Rattle.lookup_crowd.proofs.Rounding.{may_go_on, received_next, advances_then, stays_received, ends_after, ends_last_after}
use Rattle.kad_base.proofs.Failing.{fails_later}
use Rattle.lookup_crowd.specs.declared.seeker.ManyFault.TheVariants.{LinkFault}
use Rattle.lookup_crowd.proofs.round.receive_round.Goals as goal

pub receiving-preserved : goal.receiving-preserved
receiving-preserved g c =
    let h = c.receiving.invariant in
    let new = c.receive-in-receiving.new in
    let r = c.in-Ok-receive.ensures in
    record {
      may = may_go_on c.receiving.seekers new.seekers c.receiving.driver.progress new.driver.progress r.received;
      received = received_next c.args.seekers.now c.receiving.seekers new.seekers c.args.driver.now.progress c.receiving.driver.progress new.driver.progress h.received r.received r.later;
      goes = λ words. advances_then true [] [] (g.G.SealCheck.accepted c.args.site.now.seal.now) (g.G.Seal.tag_of c.args.site.now.seal.now) c.args.site.now.desk.setting.now (stand c.args.seekers.now c.args.driver.now.progress words c.args.driver.now.host (g.L.Link.told c.args.link.now))
          (stand c.receiving.seekers c.receiving.driver.progress words c.receiving.driver.host (g.L.Link.told c.receiving.link)) (stand new.seekers new.driver.progress words new.driver.host (g.L.Link.told new.link)) h.same (h.goes words) (r.goes words);
      same = same_more c.args.driver.now.host c.receiving.driver.host new.driver.host h.same r.same;
      moment = search rules;
      len = r.len ∙ h.len;
      faults = r.well (λ is. cc) ∙ h.faults;
      sends = (let a = h.sends in let b = r.send_faults in omega (arith, a, b));
      kept = search rules;
    }

pub returns-in-Err-receive-clause-stops : goal.returns-in-Err-receive-clause-stops
returns-in-Err-receive-clause-stops g c words =
    let h = c.receiving.invariant in
    ends_after true c.in-Err-receive.fault (g.G.SealCheck.accepted c.args.site.now.seal.now) (g.G.Seal.tag_of c.args.site.now.seal.now) c.args.site.now.desk.setting.now (stand c.args.seekers.now c.args.driver.now.progress words c.args.driver.now.host (g.L.Link.told c.args.link.now))
    (stand c.receiving.seekers c.receiving.driver.progress words c.receiving.driver.host (g.L.Link.told c.receiving.link)) c.receive-in-receiving.new.driver.host (g.L.Link.told c.receive-in-receiving.new.link) h.same (stays_received c.args.seekers.now c.receiving.seekers c.args.driver.now.progress c.receiving.driver.progress h.received) (λ idle. absurd cc) (λ idle. absurd cc) (h.goes words) (c.in-Err-receive.ensures.stops words)

pub returns-in-Err-receive-clause-strays : goal.returns-in-Err-receive-clause-strays
returns-in-Err-receive-clause-strays g c is words =
    let h = c.receiving.invariant in
    ends_last_after (g.G.SealCheck.accepted c.args.site.now.seal.now) (g.G.Seal.tag_of c.args.site.now.seal.now) c.args.site.now.desk.setting.now (stand c.args.seekers.now c.args.driver.now.progress words c.args.driver.now.host (g.L.Link.told c.args.link.now))
    (stand c.receiving.seekers c.receiving.driver.progress words c.receiving.driver.host (g.L.Link.told c.receiving.link)) c.receive-in-receiving.new.driver.host (g.L.Link.told c.receive-in-receiving.new.link) h.same (stays_received c.args.seekers.now c.receiving.seekers c.args.driver.now.progress c.receiving.driver.progress h.received) (h.goes words) (c.in-Err-receive.ensures.strays is words)

pub returns-in-Err-receive-clause-seats : goal.returns-in-Err-receive-clause-seats
returns-in-Err-receive-clause-seats g c = seats_then c.args.seekers.now c.receiving.seekers c.receive-in-receiving.new.seekers c.receiving.invariant.received.seats c.receive-in-receiving.ensures.seats

pub returns-in-Err-receive-clause-last : goal.returns-in-Err-receive-clause-last
returns-in-Err-receive-clause-last g c is = fails_later _ _ _ _ _ c.receiving.invariant.faults (c.in-Err-receive.ensures.last (let fault : c.in-Err-receive.fault ≡ LinkFault = cc in ap (λ x. Err x) fault))
