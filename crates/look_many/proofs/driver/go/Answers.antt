use Rattle.std.proofs.Common.{◌≡◌, ◌^◌, ◌<◌, ◌∙◌, List, [], length, rules, refl, subst, Err, ap, sym, arith}
use Rattle.std.specs.Prelude.{IsErrOf}
use Rattle.lookup_crowd.specs.declared.seeker.ManyFault.{ManyFault}
use Rattle.lookup_crowd.specs.declared.seeker.ManyFault.TheVariants.{Strays, LinkFault}
use Rattle.lookup_crowd.specs.declared.seeker.Progress.{Progress}
use Rattle.lookup_crowd.specs.declared.seeker.Seeker.{Seeker}
use Rattle.lookup_crowd.specs.inner.Crowd.{LosesMore, Stand, stand}
use Rattle.lookup_crowd.specs.inner.Going.{AreOver, HaveGone, SameSeats}
use Rattle.lookup_crowd.proofs.Gone.{seats_of, seats_then}
use Rattle.look_many.specs.inner.Serving.{MayServe}
use Rattle.look_many.specs.inner.Following.{Says, EndsSaying}
use Rattle.look_many.specs.inner.Kept.{follows_kept}
use Rattle.look_many.proofs.Following.{says_served, ends_saying_after, ends_served}
use Rattle.look_many.proofs.Wholly.{some_still, all_small, may_serve_on, place_on, went_whole, ends_rounds, ends_planning, ends_following, owing}
use Rattle.kad_base.proofs.Failing.{fails_later}
use Rattle.lookup_crowd.proofs.Losing.{loses_none, loses_then}
use Rattle.look_many.proofs.Losing.{lost_still}
use Rattle.look_many.proofs.driver.go.Goals as goal

pub returns-in-Err-clause-ends : goal.returns-in-Err-clause-ends
returns-in-Err-clause-ends g c = ends_rounds (g.G.SealCheck.accepted c.args.site.now.seal.now) (g.G.Seal.tag_of c.args.site.now.seal.now) c.args.site.now.desk.setting.now c.args.jobs.now c.in-Err.fault _ _ _ _ c.in-Err.ensures.ends

pub owe-requires-clause-over : goal.owe-requires-clause-over
owe-requires-clause-over g c =
    let left : c.go_rounds.new.driver.progress.left < 2 ^ 32 = search rules in
    let t : Stand = stand c.go_rounds.new.seekers c.go_rounds.new.driver.progress c.go_rounds.new.words c.go_rounds.new.driver.host (g.L.Link.told c.go_rounds.new.link) in
    (may_serve_on t 0 c.in-Ok.ensures.over c.all_legal.ensures (some_still c.args.seekers.now c.go_rounds.new.seekers c.requires.some_query c.in-Ok.ensures.goes.each) left (omega arith)).over

pub owe-requires-clause-few : goal.owe-requires-clause-few
owe-requires-clause-few g c = c.in-Ok.ensures.over.begins.may.few

pub owe-requires-clause-small : goal.owe-requires-clause-small
owe-requires-clause-small g c = all_small _ _ c.in-Ok.ensures.over.begins.may.ready

pub returns-in-Err-owe-clause-seats : goal.returns-in-Err-owe-clause-seats
returns-in-Err-owe-clause-seats g c = subst (SameSeats c.args.seekers.now) (sym c.owe.ensures.same) c.go_rounds.ensures.seats

pub returns-in-Err-owe-clause-ends : goal.returns-in-Err-owe-clause-ends
returns-in-Err-owe-clause-ends g c =
    let accepts = g.G.SealCheck.accepted c.args.site.now.seal.now in
    let tags = g.G.Seal.tag_of c.args.site.now.seal.now in
    let server = c.args.site.now.desk.setting.now in
    let s : Stand = stand c.args.seekers.now c.args.driver.now.progress c.args.words.now c.args.driver.now.host (g.L.Link.told c.args.link.now) in
    let t : Stand = stand c.go_rounds.new.seekers c.go_rounds.new.driver.progress c.go_rounds.new.words c.go_rounds.new.driver.host (g.L.Link.told c.go_rounds.new.link) in
    ends_planning accepts tags server c.args.jobs.now s t _ (subst (λ o. HaveGone accepts tags server s t o c.go_rounds.new.owners.items) c.requires.none_owned c.in-Ok.ensures.goes) c.all_legal.ensures

pub follow_all-requires-clause-may : goal.follow_all-requires-clause-may
follow_all-requires-clause-may g c =
    let left : c.go_rounds.new.driver.progress.left < 2 ^ 32 = search rules in
    let t : Stand = stand c.go_rounds.new.seekers c.go_rounds.new.driver.progress c.go_rounds.new.words c.go_rounds.new.driver.host (g.L.Link.told c.go_rounds.new.link) in
    subst (λ (p : Progress). MayServe c.owe.new.seekers p) (sym c.in-Ok-owe.ensures.owes)
    (subst (λ (l : List Seeker). MayServe l (record c.go_rounds.new.driver.progress { unsaid = length c.in-Ok-owe.plan })) (sym c.owe.ensures.same)
    (may_serve_on t (length c.in-Ok-owe.plan) c.in-Ok.ensures.over c.all_legal.ensures (some_still c.args.seekers.now c.go_rounds.new.seekers c.requires.some_query c.in-Ok.ensures.goes.each) left c.in-Ok-owe.ensures.few))

pub follow_all-requires-clause-unsaid : goal.follow_all-requires-clause-unsaid
follow_all-requires-clause-unsaid g c = ap (λ (p : Progress). p.unsaid) c.in-Ok-owe.ensures.owes

pub follow_all-requires-clause-place : goal.follow_all-requires-clause-place
follow_all-requires-clause-place g c =
    let t : Stand = stand c.go_rounds.new.seekers c.go_rounds.new.driver.progress c.go_rounds.new.words c.go_rounds.new.driver.host (g.L.Link.told c.go_rounds.new.link) in
    place_on t _ c.in-Ok.ensures.over c.in-Ok-owe.ensures.few

pub returns-in-Err-follow_all-clause-seats : goal.returns-in-Err-follow_all-clause-seats
returns-in-Err-follow_all-clause-seats g c =
    seats_then c.args.seekers.now c.owe.new.seekers c.follow_all.new.seekers (subst (SameSeats c.args.seekers.now) (sym c.owe.ensures.same) c.go_rounds.ensures.seats) (seats_of _ _ c.follow_all.ensures.seats)

pub returns-in-Err-follow_all-clause-ends : goal.returns-in-Err-follow_all-clause-ends
returns-in-Err-follow_all-clause-ends g c =
    let accepts = g.G.SealCheck.accepted c.args.site.now.seal.now in
    let tags = g.G.Seal.tag_of c.args.site.now.seal.now in
    let server = c.args.site.now.desk.setting.now in
    let p = c.go_rounds.new.driver.progress in
    let w = c.go_rounds.new.words in
    let h = c.go_rounds.new.driver.host in
    let told = g.L.Link.told c.go_rounds.new.link in
    let same = c.owe.ensures.same in
    let plan = c.in-Ok-owe.plan in
    let s : Stand = stand c.args.seekers.now c.args.driver.now.progress c.args.words.now c.args.driver.now.host (g.L.Link.told c.args.link.now) in
    let t : Stand = stand c.owe.new.seekers p w h told in
    let gone : HaveGone accepts tags server s t [] c.go_rounds.new.owners.items =
    subst (λ (l : List Seeker). HaveGone accepts tags server s (stand l p w h told) [] c.go_rounds.new.owners.items) (sym same)
    (subst (λ o. HaveGone accepts tags server s (stand c.go_rounds.new.seekers p w h told) o c.go_rounds.new.owners.items) c.requires.none_owned c.in-Ok.ensures.goes) in
    let over : AreOver t = subst (λ (l : List Seeker). AreOver (stand l p w h told)) (sym same) c.in-Ok.ensures.over in
    let is_fault : c.in-Err-follow_all.fault ≡ Strays → IsErrOf c.follow_all.result Strays = λ e. c.in-Err-follow_all.is ∙ ap (λ (x : ManyFault). Err x) e in
    let planned = c.in-Ok-owe.ensures.plan ∙ ap (follows_kept server.own 0 c.args.jobs.now) (sym same) in
    ends_following accepts tags server c.args.jobs.now c.in-Err-follow_all.fault plan s t _ _ _ _ planned gone over (λ e. c.follow_all.ensures.strays (is_fault e))
    (subst (λ (x : Progress). EndsSaying c.in-Err-follow_all.fault plan accepts tags server (stand c.owe.new.seekers x w h told) c.follow_all.new.words c.follow_all.new.driver.host (g.L.Link.told c.follow_all.new.link)) c.in-Ok-owe.ensures.owes c.in-Err-follow_all.ensures.stops)

pub returns-in-Err-follow_all-clause-last : goal.returns-in-Err-follow_all-clause-last
returns-in-Err-follow_all-clause-last g c is = fails_later _ _ _ _ _ (c.in-Ok.ensures.well (λ e. cc)) (c.in-Err-follow_all.ensures.last (let fault : c.in-Err-follow_all.fault ≡ LinkFault = cc in ap (λ x. Err x) fault))

pub serve_on-requires-clause-may : goal.serve_on-requires-clause-may
serve_on-requires-clause-may g c = c.in-Ok-follow_all.ensures.says.may

pub returns-in-Ok-serve_on-clause-seats : goal.returns-in-Ok-serve_on-clause-seats
returns-in-Ok-serve_on-clause-seats g c =
    seats_then c.args.seekers.now c.follow_all.new.seekers c.serve_on.new.seekers
    (seats_then c.args.seekers.now c.owe.new.seekers c.follow_all.new.seekers (subst (SameSeats c.args.seekers.now) (sym c.owe.ensures.same) c.go_rounds.ensures.seats) (seats_of _ _ c.follow_all.ensures.seats)) (seats_of _ _ c.serve_on.ensures.seats)

pub returns-in-Ok-serve_on-clause-went : goal.returns-in-Ok-serve_on-clause-went
returns-in-Ok-serve_on-clause-went g c =
    let accepts = g.G.SealCheck.accepted c.args.site.now.seal.now in
    let tags = g.G.Seal.tag_of c.args.site.now.seal.now in
    let server = c.args.site.now.desk.setting.now in
    let p = c.go_rounds.new.driver.progress in
    let w = c.go_rounds.new.words in
    let h = c.go_rounds.new.driver.host in
    let told = g.L.Link.told c.go_rounds.new.link in
    let same = c.owe.ensures.same in
    let plan = c.in-Ok-owe.plan in
    let s : Stand = stand c.args.seekers.now c.args.driver.now.progress c.args.words.now c.args.driver.now.host (g.L.Link.told c.args.link.now) in
    let t : Stand = stand c.owe.new.seekers p w h told in
    let gone : HaveGone accepts tags server s t [] c.go_rounds.new.owners.items =
    subst (λ (l : List Seeker). HaveGone accepts tags server s (stand l p w h told) [] c.go_rounds.new.owners.items) (sym same)
    (subst (λ o. HaveGone accepts tags server s (stand c.go_rounds.new.seekers p w h told) o c.go_rounds.new.owners.items) c.requires.none_owned c.in-Ok.ensures.goes) in
    let over : AreOver t = subst (λ (l : List Seeker). AreOver (stand l p w h told)) (sym same) c.in-Ok.ensures.over in
    let planned = c.in-Ok-owe.ensures.plan ∙ ap (follows_kept server.own 0 c.args.jobs.now) (sym same) in
    let v : Stand = stand c.follow_all.new.seekers c.follow_all.new.driver.progress c.follow_all.new.words c.follow_all.new.driver.host (g.L.Link.told c.follow_all.new.link) in
    let u : Stand = stand c.serve_on.new.seekers c.serve_on.new.driver.progress c.follow_all.new.words c.serve_on.new.driver.host (g.L.Link.told c.serve_on.new.link) in
    let r = c.in-Ok-serve_on.ensures in
    let said : Says plan accepts tags server (owing accepts tags server t plan) v c.go_rounds.new.owners.items c.follow_all.new.log.owners.items [] c.follow_all.new.log.said.items =
    subst (λ o. Says plan accepts tags server (owing accepts tags server t plan) v c.go_rounds.new.owners.items c.follow_all.new.log.owners.items o c.follow_all.new.log.said.items) c.requires.none_said
    (subst (λ (x : Progress). Says plan accepts tags server (stand c.owe.new.seekers x w h told) v c.go_rounds.new.owners.items c.follow_all.new.log.owners.items c.args.log.now.said.items c.follow_all.new.log.said.items) c.in-Ok-owe.ensures.owes c.in-Ok-follow_all.ensures.says) in
    went_whole accepts tags server c.args.jobs.now plan s t u _ _ _ planned gone over
    (says_served plan accepts tags server (owing accepts tags server t plan) v u _ _ _ _ said refl c.serve_on.ensures.same (r.goes c.follow_all.new.words) r.may r.journals r.gathered c.serve_on.ensures.seats) r.said r.over c.all_legal-in-Ok-serve_on.ensures

pub returns-in-Err-serve_on-clause-seats : goal.returns-in-Err-serve_on-clause-seats
returns-in-Err-serve_on-clause-seats g c =
    seats_then c.args.seekers.now c.follow_all.new.seekers c.serve_on.new.seekers
    (seats_then c.args.seekers.now c.owe.new.seekers c.follow_all.new.seekers (subst (SameSeats c.args.seekers.now) (sym c.owe.ensures.same) c.go_rounds.ensures.seats) (seats_of _ _ c.follow_all.ensures.seats)) (seats_of _ _ c.serve_on.ensures.seats)

pub returns-in-Err-serve_on-clause-ends : goal.returns-in-Err-serve_on-clause-ends
returns-in-Err-serve_on-clause-ends g c =
    let accepts = g.G.SealCheck.accepted c.args.site.now.seal.now in
    let tags = g.G.Seal.tag_of c.args.site.now.seal.now in
    let server = c.args.site.now.desk.setting.now in
    let p = c.go_rounds.new.driver.progress in
    let w = c.go_rounds.new.words in
    let h = c.go_rounds.new.driver.host in
    let told = g.L.Link.told c.go_rounds.new.link in
    let same = c.owe.ensures.same in
    let plan = c.in-Ok-owe.plan in
    let s : Stand = stand c.args.seekers.now c.args.driver.now.progress c.args.words.now c.args.driver.now.host (g.L.Link.told c.args.link.now) in
    let t : Stand = stand c.owe.new.seekers p w h told in
    let gone : HaveGone accepts tags server s t [] c.go_rounds.new.owners.items =
    subst (λ (l : List Seeker). HaveGone accepts tags server s (stand l p w h told) [] c.go_rounds.new.owners.items) (sym same)
    (subst (λ o. HaveGone accepts tags server s (stand c.go_rounds.new.seekers p w h told) o c.go_rounds.new.owners.items) c.requires.none_owned c.in-Ok.ensures.goes) in
    let over : AreOver t = subst (λ (l : List Seeker). AreOver (stand l p w h told)) (sym same) c.in-Ok.ensures.over in
    let planned = c.in-Ok-owe.ensures.plan ∙ ap (follows_kept server.own 0 c.args.jobs.now) (sym same) in
    let v : Stand = stand c.follow_all.new.seekers c.follow_all.new.driver.progress c.follow_all.new.words c.follow_all.new.driver.host (g.L.Link.told c.follow_all.new.link) in
    let said : Says plan accepts tags server (owing accepts tags server t plan) v c.go_rounds.new.owners.items c.follow_all.new.log.owners.items c.args.log.now.said.items c.follow_all.new.log.said.items =
    subst (λ (x : Progress). Says plan accepts tags server (stand c.owe.new.seekers x w h told) v c.go_rounds.new.owners.items c.follow_all.new.log.owners.items c.args.log.now.said.items c.follow_all.new.log.said.items) c.in-Ok-owe.ensures.owes c.in-Ok-follow_all.ensures.says in
    let is_fault : c.in-Err-serve_on.fault ≡ Strays → IsErrOf c.serve_on.result Strays = λ e. c.in-Err-serve_on.is ∙ ap (λ (x : ManyFault). Err x) e in
    ends_following accepts tags server c.args.jobs.now c.in-Err-serve_on.fault plan s t _ _ _ _ planned gone over (λ e. c.serve_on.ensures.strays (is_fault e))
    (ends_saying_after plan accepts tags server c.in-Err-serve_on.fault (owing accepts tags server t plan) v _ _ _ _ _ _ _ said (ends_served plan accepts tags server c.in-Err-serve_on.fault v c.follow_all.new.words c.serve_on.new.driver.host (g.L.Link.told c.serve_on.new.link) refl (c.in-Err-serve_on.ensures.stops c.follow_all.new.words)))

pub returns-in-Err-serve_on-clause-last : goal.returns-in-Err-serve_on-clause-last
returns-in-Err-serve_on-clause-last g c is = fails_later _ _ _ _ _ (c.in-Ok-follow_all.ensures.well (λ e. cc) ∙ c.in-Ok.ensures.well (λ e. cc)) (c.in-Err-serve_on.ensures.last (let fault : c.in-Err-serve_on.fault ≡ LinkFault = cc in ap (λ x. Err x) fault))

pub returns-in-Ok-serve_on-clause-loses : goal.returns-in-Ok-serve_on-clause-loses
returns-in-Ok-serve_on-clause-loses g c =
    loses_then c.args.seekers.now c.owe.new.seekers c.serve_on.new.seekers _ _ _ (subst (λ (l : List Seeker). LosesMore c.args.seekers.now l (g.L.Link.send_faults c.args.link.now) (g.L.Link.send_faults c.go_rounds.new.link)) (sym c.owe.ensures.same) c.in-Ok.ensures.loses)
    (loses_none _ _ _ _ (lost_still _ _ (c.in-Ok-serve_on.ensures.journals ∙ c.in-Ok-follow_all.ensures.says.journals)) (let a = c.follow_all.ensures.send_faults in let b = c.serve_on.ensures.send_faults in omega (arith, a, b)))
