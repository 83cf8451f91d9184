use Rattle.std.proofs.Common.{[], rules, refl, true, false, ◌∙◌, ◌≡◌, Err, ap, arith}
use Rattle.serve_crew.proofs.Growing.{same_none, same_more}
use Rattle.lookup_crowd.specs.inner.Crowd.{stand}
use Rattle.lookup_crowd.proofs.Heard.{same_seats, seats_then}
use Rattle.lookup_crowd.proofs.Rounding.{advances_none, advances_then, ends_after, ends_now}
use Rattle.look_many.proofs.ServingOn.{may_serve, serve_next, stays_same}
use Rattle.kad_base.proofs.Failing.{fails_later}
use Rattle.lookup_crowd.specs.declared.seeker.ManyFault.TheVariants.{LinkFault}
use Rattle.look_many.proofs.serving.serve_on.Goals as goal

pub serving-init : goal.serving-init
serving-init g c = record {
  may = c.requires.may;
  said = c.requires.said;
  journals = refl;
  gathered = refl;
  goes = λ words. advances_none false (g.G.SealCheck.accepted c.args.site.now.seal.now) (g.G.Seal.tag_of c.args.site.now.seal.now) c.args.site.now.desk.setting.now (stand c.args.seekers.now c.args.driver.now.progress words c.args.driver.now.host (g.L.Link.told c.args.link.now));
  same = same_none c.args.driver.now.host;
  moment = search rules;
  len = refl;
  seats = same_seats c.args.seekers.now;
  faults = refl;
  sends = omega arith;
  kept = search rules;
}

pub receive_until-requires-clause-may : goal.receive_until-requires-clause-may
receive_until-requires-clause-may g c = may_serve c.serving.seekers c.serving.driver.progress c.waits_to-until.result c.serving.invariant.may c.serving.invariant.said (c.has_enough.ensures.more (search rules)) c.waits_to-until.ensures

pub serving-preserved : goal.serving-preserved
serving-preserved g c =
    let h = c.serving.invariant in
    let new = c.receive_until.new in
    let r = c.in-Ok.ensures in
    record {
      may = serve_next c.serving.seekers new.seekers c.serving.driver.progress new.driver.progress h.may (c.has_enough.ensures.more (search rules)) r.received;
      said = r.received.unsaid ∙ h.said;
      journals = r.received.same refl ∙ h.journals;
      gathered = r.received.same_gathered refl ∙ h.gathered;
      goes = λ words. advances_then false [] [] (g.G.SealCheck.accepted c.args.site.now.seal.now) (g.G.Seal.tag_of c.args.site.now.seal.now) c.args.site.now.desk.setting.now (stand c.args.seekers.now c.args.driver.now.progress words c.args.driver.now.host (g.L.Link.told c.args.link.now))
          (stand c.serving.seekers c.serving.driver.progress words c.serving.driver.host (g.L.Link.told c.serving.link)) (stand new.seekers new.driver.progress words new.driver.host (g.L.Link.told new.link)) h.same (h.goes words) (r.goes words);
      same = same_more c.args.driver.now.host c.serving.driver.host new.driver.host h.same r.same;
      moment = search rules;
      len = r.len ∙ h.len;
      seats = seats_then c.args.seekers.now c.serving.seekers new.seekers h.seats r.seats;
      faults = r.well (λ is. cc) ∙ h.faults;
      sends = (let a = h.sends in let b = r.send_faults in omega (arith, a, b));
      kept = search rules;
    }

pub returns-in-Err-clause-stops : goal.returns-in-Err-clause-stops
returns-in-Err-clause-stops g c words =
    let h = c.serving.invariant in
    let mid = stand c.serving.seekers c.serving.driver.progress words c.serving.driver.host (g.L.Link.told c.serving.link) in
    ends_after false c.in-Err.fault (g.G.SealCheck.accepted c.args.site.now.seal.now) (g.G.Seal.tag_of c.args.site.now.seal.now) c.args.site.now.desk.setting.now (stand c.args.seekers.now c.args.driver.now.progress words c.args.driver.now.host (g.L.Link.told c.args.link.now))
    mid c.receive_until.new.driver.host (g.L.Link.told c.receive_until.new.link) h.same (stays_same c.args.seekers.now c.serving.seekers h.journals h.gathered h.seats) (λ idle. h.journals) (λ idle. h.gathered) (h.goes words)
    (ends_now false c.in-Err.fault (g.G.SealCheck.accepted c.args.site.now.seal.now) (g.G.Seal.tag_of c.args.site.now.seal.now) c.args.site.now.desk.setting.now mid c.receive_until.new.driver.host (g.L.Link.told c.receive_until.new.link) c.all_legal.ensures (c.in-Err.ensures.stops words) c.in-Err.ensures.ran_on)

pub returns-in-Err-clause-seats : goal.returns-in-Err-clause-seats
returns-in-Err-clause-seats g c = seats_then c.args.seekers.now c.serving.seekers c.receive_until.new.seekers c.serving.invariant.seats c.receive_until.ensures.seats

pub returns-in-Err-clause-strays : goal.returns-in-Err-clause-strays
returns-in-Err-clause-strays g c is = (let t : false ≡ true = c.in-Err.ensures.busy is in absurd cc)

pub returns-in-Err-clause-last : goal.returns-in-Err-clause-last
returns-in-Err-clause-last g c is = fails_later _ _ _ _ _ c.serving.invariant.faults (c.in-Err.ensures.last (let fault : c.in-Err.fault ≡ LinkFault = cc in ap (λ x. Err x) fault))
