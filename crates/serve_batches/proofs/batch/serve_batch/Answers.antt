use Rattle.std.proofs.Common.{◌+◌, ◌-◌, ◌<◌, length, refl, subst, arith}
use Rattle.serve_batches.specs.Ring.{ring}
use Rattle.serve_batches.specs.declared.place.Place.{Place}
use Rattle.node_serve.specs.declared.setting.ServeSetting.{ServeSetting}
use Rattle.serve_batches.specs.Crew.{AllWorked}
use Rattle.serve_batches.specs.declared.batch.Progress.{Progress}
use Rattle.serve_batches.proofs.Answering.{shares_here, roomy_worked, answered_all}
use Rattle.serve_batches.proofs.Arriving.{roomy_after}
use Rattle.serve_batches.proofs.Batching.{grew_batch, grew_kept, batch_served}
use Rattle.serve_batches.proofs.Circling.{place_within, place_small}
use Rattle.serve_batches.proofs.batch.serve_batch.Goals as goal

pub returns-in-Err-clause-roomy : goal.returns-in-Err-clause-roomy
returns-in-Err-clause-roomy g c = roomy_after c.args.crew.now.items c.receive_batch.new.crew.items c.in-Err.ensures.same c.requires.roomy

pub returns-in-Err-clause-grew : goal.returns-in-Err-clause-grew
returns-in-Err-clause-grew g c = grew_kept c.args.crew.now.items c.receive_batch.new.crew.items c.in-Err.ensures.same

pub work_all-requires-clause-few : goal.work_all-requires-clause-few
work_all-requires-clause-few g c = place_small (length c.receive_batch.new.crew.items) c.in-Ok.batch.came c.in-Ok.batch.place c.in-Ok.ensures.place c.in-Ok.ensures.came

pub work_all-requires-clause-within : goal.work_all-requires-clause-within
work_all-requires-clause-within g c =
    let len = c.in-Ok.ensures.same.len in
    let some = c.requires.workers in
    place_within (length c.receive_batch.new.crew.items) c.in-Ok.batch.came c.in-Ok.batch.place c.in-Ok.ensures.place (omega (arith, len, some))

pub work_all-requires-clause-shares : goal.work_all-requires-clause-shares
work_all-requires-clause-shares g c =
    shares_here c.receive_batch.new.crew.items c.in-Ok.batch.came c.in-Ok.batch.place c.in-Ok.ensures.place c.in-Ok.ensures.came (roomy_after c.args.crew.now.items c.receive_batch.new.crew.items c.in-Ok.ensures.same c.requires.roomy)

pub all_went-requires-clause-roomy : goal.all_went-requires-clause-roomy
all_went-requires-clause-roomy g c =
    roomy_worked (g.G.Seal.tag_of c.args.service.now.seal.now) c.renew.new.setting c.in-Ok.batch.place c.receive_batch.new.crew.items c.work_all.new.crew.items c.work_all.ensures.len c.work_all.ensures.each
    (roomy_after c.args.crew.now.items c.receive_batch.new.crew.items c.in-Ok.ensures.same c.requires.roomy)

pub returns-in-Err-all_went-clause-roomy : goal.returns-in-Err-all_went-clause-roomy
returns-in-Err-all_went-clause-roomy g c =
    roomy_worked (g.G.Seal.tag_of c.args.service.now.seal.now) c.renew.new.setting c.in-Ok.batch.place c.receive_batch.new.crew.items c.work_all.new.crew.items c.work_all.ensures.len c.work_all.ensures.each
    (roomy_after c.args.crew.now.items c.receive_batch.new.crew.items c.in-Ok.ensures.same c.requires.roomy)

pub send_replies-sent-requires-clause-roomy : goal.send_replies-sent-requires-clause-roomy
send_replies-sent-requires-clause-roomy g c =
    roomy_worked (g.G.Seal.tag_of c.args.service.now.seal.now) c.renew.new.setting c.in-Ok.batch.place c.receive_batch.new.crew.items c.work_all.new.crew.items c.work_all.ensures.len c.work_all.ensures.each
    (roomy_after c.args.crew.now.items c.receive_batch.new.crew.items c.in-Ok.ensures.same c.requires.roomy)

pub returns-clause-roomy : goal.returns-clause-roomy
returns-clause-roomy g c =
    roomy_worked (g.G.Seal.tag_of c.args.service.now.seal.now) c.renew.new.setting c.in-Ok.batch.place c.receive_batch.new.crew.items c.work_all.new.crew.items c.work_all.ensures.len c.work_all.ensures.each
    (roomy_after c.args.crew.now.items c.receive_batch.new.crew.items c.in-Ok.ensures.same c.requires.roomy)

pub returns-in-Err-all_went-clause-grew : goal.returns-in-Err-all_went-clause-grew
returns-in-Err-all_went-clause-grew g c =
    let mid = c.receive_batch.new.crew.items in
    let new = c.work_all.new.crew.items in
    grew_batch (g.G.Seal.tag_of c.args.service.now.seal.now) c.renew.new.setting c.in-Ok.batch.came c.args.crew.now.items mid new c.in-Ok.ensures.same
    (subst (λ (p : Place). AllWorked (g.G.Seal.tag_of c.args.service.now.seal.now) c.renew.new.setting p mid new) c.in-Ok.ensures.place c.work_all.ensures.each)

pub returns-clause-grew : goal.returns-clause-grew
returns-clause-grew g c =
    let mid = c.receive_batch.new.crew.items in
    let new = c.work_all.new.crew.items in
    grew_batch (g.G.Seal.tag_of c.args.service.now.seal.now) c.renew.new.setting c.in-Ok.batch.came c.args.crew.now.items mid new c.in-Ok.ensures.same
    (subst (λ (p : Place). AllWorked (g.G.Seal.tag_of c.args.service.now.seal.now) c.renew.new.setting p mid new) c.in-Ok.ensures.place c.work_all.ensures.each)

pub returns-clause-ok : goal.returns-clause-ok
returns-clause-ok g c =
    let mid = c.receive_batch.new.crew.items in
    let new = c.work_all.new.crew.items in
    let same = c.in-Ok.ensures.same in
    let len = same.len in
    let workers = c.requires.workers in
    let some : 0 < length c.receive_batch.new.crew.items = omega (arith, len, workers) in
    let made = c.in-Ok.ensures.made in
    let worked = subst (λ (s : ServeSetting). AllWorked (g.G.Seal.tag_of c.args.service.now.seal.now) s (ring (length mid) c.in-Ok.batch.came) mid new) c.renew.ensures
    (subst (λ (p : Place). AllWorked (g.G.Seal.tag_of c.args.service.now.seal.now) c.renew.new.setting p mid new) c.in-Ok.ensures.place c.work_all.ensures.each) in
    let answered = answered_all (g.G.Seal.tag_of c.args.service.now.seal.now) c.args.setting.now c.in-Ok.batch.came mid new some c.work_all.ensures.len c.in-Ok.ensures.came (roomy_after c.args.crew.now.items mid same c.requires.roomy) worked c.in-Ok-all_went.ensures in
    let next : Progress = record {
      moment = c.in-Ok.batch.moment;
      left = c.args.progress.now.left - c.in-Ok.batch.made;
      received = c.args.progress.now.received + c.in-Ok.batch.came;
      replied = c.args.progress.now.replied + c.send_replies-sent.result;
    } in
    batch_served (g.G.Seal.tag_of c.args.service.now.seal.now) c.args.service.now.end c.args.setting.now c.args.progress.now next c.in-Ok.batch c.send_replies-sent.result c.args.crew.now.items mid new _ _ _ c.requires.some c.requires.goes same answered
    refl (omega (arith, made)) refl refl c.in-Ok.ensures.ok c.send_replies-sent.ensures.told
