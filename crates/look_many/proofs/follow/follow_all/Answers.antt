use Rattle.std.proofs.Common.{◌≡◌, ◌+◌, rules, true, false, refl, ap, ◌∙◌, arith, Err}
use Rattle.kad_base.proofs.Failing.{fails_later}
use Rattle.id_puzzles.specs.Drawn.{WordsState}
use Rattle.serve_crew.proofs.Growing.{same_none, same_more}
use Rattle.lookup_crowd.specs.declared.seeker.ManyFault.TheVariants.{LinkFault}
use Rattle.lookup_crowd.specs.inner.Crowd.{Stand, stand}
use Rattle.lookup_crowd.proofs.Heard.{seats_then}
use Rattle.look_many.proofs.Following.{says_none, says_then, ends_saying_after, left_first, left_some, left_carries, left_next, left_after, may_follow, unsaid_after, says_one, ends_unsaid, ends_said}
use Rattle.look_many.proofs.follow.follow_all.Goals as goal

pub following-init : goal.following-init
following-init g c = record {
  says = says_none c.args.plan (g.G.SealCheck.accepted c.args.site.now.seal.now) (g.G.Seal.tag_of c.args.site.now.seal.now) c.args.site.now.desk.setting.now (stand c.args.seekers.now c.args.driver.now.progress c.args.words.now c.args.driver.now.host (g.L.Link.told c.args.link.now)) c.args.log.now.owners.items c.args.log.now.said.items c.requires.may;
  left = left_first c.args.plan c.last_first-left.result.items c.args.driver.now.progress.unsaid c.last_first-left.ensures c.requires.unsaid c.requires.carried;
  place = ap (λ n. c.args.words.now.place + n) c.requires.unsaid;
  same = same_none c.args.driver.now.host;
  moment = search rules;
  len = refl;
  faults = refl;
  sends = omega arith;
  kept = search rules;
}

pub say-requires-clause-some : goal.say-requires-clause-some
say-requires-clause-some g c = left_some c.args.plan c.following.left.items c.pop.new.self.items c.in-Some.follow c.following.driver.progress.unsaid c.following.invariant.left c.in-Some.ensures.items

pub say-requires-clause-carried : goal.say-requires-clause-carried
say-requires-clause-carried g c = left_carries c.args.plan c.following.left.items c.pop.new.self.items c.in-Some.follow c.following.driver.progress.unsaid c.following.invariant.left c.in-Some.ensures.items

pub say-requires-clause-place : goal.say-requires-clause-place
say-requires-clause-place g c =
    let some = left_some c.args.plan c.following.left.items c.pop.new.self.items c.in-Some.follow c.following.driver.progress.unsaid c.following.invariant.left c.in-Some.ensures.items in
    let place = c.following.invariant.place in
    let room = c.requires.place in
    omega (arith, some, place, room)

pub receive_until-requires-clause-may : goal.receive_until-requires-clause-may
receive_until-requires-clause-may g c =
    let some = left_some c.args.plan c.following.left.items c.pop.new.self.items c.in-Some.follow c.following.driver.progress.unsaid c.following.invariant.left c.in-Some.ensures.items in
    may_follow c.following.seekers c.following.driver.progress c.say.new.progress _ c.following.invariant.says.may some c.in-Ok.ensures.progress refl

pub following-preserved : goal.following-preserved
following-preserved g c =
    let h = c.following.invariant in
    let s = c.in-Ok.ensures in
    let new = c.receive_until.new in
    let r = c.in-Ok-receive_until.ensures in
    let old : Stand = stand c.args.seekers.now c.args.driver.now.progress c.args.words.now c.args.driver.now.host (g.L.Link.told c.args.link.now) in
    let mid : Stand = stand c.following.seekers c.following.driver.progress c.following.words c.following.driver.host (g.L.Link.told c.following.link) in
    let now : Stand = stand new.seekers new.driver.progress c.say.new.words new.driver.host (g.L.Link.told new.link) in
    let some = left_some c.args.plan c.following.left.items c.pop.new.self.items c.in-Some.follow c.following.driver.progress.unsaid c.following.invariant.left c.in-Some.ensures.items in
    let next = left_next c.args.plan c.following.left.items c.pop.new.self.items c.in-Some.follow c.following.driver.progress.unsaid h.left c.in-Some.ensures.items c.following.driver.progress refl in
    let unsaid = unsaid_after c.following.seekers new.seekers c.following.driver.progress c.say.new.progress new.driver.progress s.progress r.received in
    record {
      says = says_then c.args.plan (g.G.SealCheck.accepted c.args.site.now.seal.now) (g.G.Seal.tag_of c.args.site.now.seal.now) c.args.site.now.desk.setting.now old mid now _ _ _ _ _ _ h.says
          (says_one c.args.plan (g.G.SealCheck.accepted c.args.site.now.seal.now) (g.G.Seal.tag_of c.args.site.now.seal.now) c.args.site.now.desk.setting.now c.in-Some.follow _ c.following.seekers new.seekers c.following.driver.progress c.say.new.progress new.driver.progress c.following.words c.say.new.words c.following.driver.host new.driver.host
          (g.L.Link.told c.following.link) (g.L.Link.told c.say.new.link) (g.L.Link.told new.link) c.following.log.owners.items c.say.new.log.owners.items c.following.log.said.items c.say.new.log.said.items h.says.may some next s.progress s.drawn s.ok s.owners s.said r.same r.received (r.goes c.say.new.words));
      left = left_after c.args.plan c.following.left.items c.pop.new.self.items c.in-Some.follow c.following.driver.progress.unsaid h.left c.in-Some.ensures.items new.driver.progress.unsaid unsaid;
      place = (let a = h.place in let b = ap (λ (w : WordsState). w.place) s.drawn in omega (arith, a, b, unsaid, some));
      same = same_more c.args.driver.now.host c.following.driver.host new.driver.host h.same r.same;
      moment = search rules;
      len = r.len ∙ h.len;
      faults = r.well (λ is. cc) ∙ c.say.ensures.recv_faults ∙ h.faults;
      sends = (let a = h.sends in let b = c.say.ensures.send_faults in let d = r.send_faults in omega (arith, a, b, d));
      kept = search rules;
    }

pub returns-clause-says : goal.returns-clause-says
returns-clause-says g c = c.following.invariant.says

pub returns-clause-seats : goal.returns-clause-seats
returns-clause-seats g c = c.following.invariant.says.seats

pub returns-in-Err-clause-seats : goal.returns-in-Err-clause-seats
returns-in-Err-clause-seats g c = c.following.invariant.says.seats

pub returns-in-Err-clause-stops : goal.returns-in-Err-clause-stops
returns-in-Err-clause-stops g c =
    let old : Stand = stand c.args.seekers.now c.args.driver.now.progress c.args.words.now c.args.driver.now.host (g.L.Link.told c.args.link.now) in
    let mid : Stand = stand c.following.seekers c.following.driver.progress c.following.words c.following.driver.host (g.L.Link.told c.following.link) in
    ends_saying_after c.args.plan (g.G.SealCheck.accepted c.args.site.now.seal.now) (g.G.Seal.tag_of c.args.site.now.seal.now) c.args.site.now.desk.setting.now _ old mid _ _ _ _ _ _ _ c.following.invariant.says
    (ends_unsaid c.args.plan (g.G.SealCheck.accepted c.args.site.now.seal.now) (g.G.Seal.tag_of c.args.site.now.seal.now) c.args.site.now.desk.setting.now c.following.seekers c.following.driver.progress c.following.words c.say.new.words c.following.driver.host (g.L.Link.told c.following.link) (g.L.Link.told c.say.new.link) c.all_legal.ensures c.in-Err.ensures.same_words c.in-Err.ensures.same_told)

pub returns-in-Err-receive_until-clause-seats : goal.returns-in-Err-receive_until-clause-seats
returns-in-Err-receive_until-clause-seats g c = seats_then c.args.seekers.now c.following.seekers c.receive_until.new.seekers c.following.invariant.says.seats c.receive_until.ensures.seats

pub returns-in-Err-receive_until-clause-stops : goal.returns-in-Err-receive_until-clause-stops
returns-in-Err-receive_until-clause-stops g c =
    let h = c.following.invariant in
    let s = c.in-Ok.ensures in
    let r = c.in-Err-receive_until.ensures in
    let old : Stand = stand c.args.seekers.now c.args.driver.now.progress c.args.words.now c.args.driver.now.host (g.L.Link.told c.args.link.now) in
    let mid : Stand = stand c.following.seekers c.following.driver.progress c.following.words c.following.driver.host (g.L.Link.told c.following.link) in
    let next = left_next c.args.plan c.following.left.items c.pop.new.self.items c.in-Some.follow c.following.driver.progress.unsaid h.left c.in-Some.ensures.items c.following.driver.progress refl in
    ends_saying_after c.args.plan (g.G.SealCheck.accepted c.args.site.now.seal.now) (g.G.Seal.tag_of c.args.site.now.seal.now) c.args.site.now.desk.setting.now c.in-Err-receive_until.fault old mid _ _ _ _ _ _ _ h.says
    (ends_said c.args.plan (g.G.SealCheck.accepted c.args.site.now.seal.now) (g.G.Seal.tag_of c.args.site.now.seal.now) c.args.site.now.desk.setting.now c.in-Err-receive_until.fault c.in-Some.follow _ c.following.seekers c.following.driver.progress c.say.new.progress c.following.words c.say.new.words c.following.driver.host c.receive_until.new.driver.host
    (g.L.Link.told c.following.link) (g.L.Link.told c.say.new.link) (g.L.Link.told c.receive_until.new.link) h.says.may next s.progress s.drawn s.ok c.all_legal.ensures (r.stops c.say.new.words) r.ran_on)

pub returns-in-Err-receive_until-clause-strays : goal.returns-in-Err-receive_until-clause-strays
returns-in-Err-receive_until-clause-strays g c is = (let t : false ≡ true = c.in-Err-receive_until.ensures.busy is in absurd cc)

pub returns-in-Err-receive_until-clause-last : goal.returns-in-Err-receive_until-clause-last
returns-in-Err-receive_until-clause-last g c is = fails_later _ _ _ _ _ (c.say.ensures.recv_faults ∙ c.following.invariant.faults) (c.in-Err-receive_until.ensures.last (let fault : c.in-Err-receive_until.fault ≡ LinkFault = cc in ap (λ x. Err x) fault))
