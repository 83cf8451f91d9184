use Rattle.std.proofs.Common.{◌≤◌, length, ◌∙◌, arith}
use Rattle.std.proofs.lemmas.List.{take_all}
use Rattle.kad_distance.specs.Order.{closeness}
use Rattle.kad_distance.specs.KClosest.{put}
use Rattle.kad_distance.proofs.Chosen.{closest_put}
use Rattle.claim_book.proofs.Lists.{put_few}
use Rattle.claim_book.proofs.path.put_near.Goals as goal

pub returns-clause-items : goal.returns-clause-items
returns-clause-items c =
    let R = closeness c.args.setting.now.target in
    let near = c.args.near.now.items in
    let more = put R near c.args.contact.now in
    let fits : length more ≤ c.capacity-k.result = omega (arith, put_few R near c.args.contact.now, c.capacity-k.ensures, c.requires.room) in
    c.put_closest.ensures.items ∙ closest_put c.args.setting.now.target c.capacity-k.result near c.args.contact.now c.requires.sorted ∙ take_all c.capacity-k.result more fits
