use Rattle.std.proofs.Common.{◌≡◌, length, subst, arith, rules}
use Rattle.std.specs.Vec.{with_items}
use Rattle.std.proofs.lemmas.List.{with_items_is}
use Rattle.work_desk.specs.Rule.{AllDid}
use Rattle.serve_batches.specs.Deeds.{AllTold, DidWork, known}
use Rattle.serve_batches.proofs.Doing.{worked_all}
use Rattle.serve_batches.proofs.crew.work_all.Goals as goal

pub returns-clause-each : goal.returns-clause-each
returns-clause-each g c =
    let mid = c.deal_shares.new.crew in
    let told : AllTold c.args.place.now c.args.crew.now.items mid = search rules in
    let len : length mid ≡ length c.args.crew.now.items = search rules in
    let whole : (with_items c.args.crew.now mid).items ≡ mid = with_items_is c.args.crew.now mid (grind (arith, len)) in
    worked_all g.B.Serving.known (known (g.G.Seal.tag_of c.args.service.now.seal.now) c.args.setting.now c.args.service.now.turns.now) c.requires.known c.args.place.now c.args.crew.now.items mid len told c.work_out.new.crew.items
    (subst (λ l. AllDid (DidWork g.B.Serving.known) l c.work_out.new.crew.items) whole c.work_out.ensures.did)
