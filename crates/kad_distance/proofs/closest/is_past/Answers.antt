use Rattle.std.proofs.Common.{◌≡◌, ◌<◌, ◌-◌, length, arith}
use Rattle.std.proofs.lemmas.List.{get_or_default}
use Rattle.kad_distance.proofs.Stays.{closest_past}
use Rattle.kad_distance.proofs.closest.is_past.Goals as goal

pub returns : goal.returns
returns c = λ it_is.
    let near = c.args.near.now in
    let full : length near ≡ c.args.k = omega arith in
    let some : 0 < length near = omega arith in
    let last : length near - 1 < length near = omega arith in
    closest_past c.args.target.now c.args.k near c.args.contact.now _ c.requires full some (get_or_default near (length near - 1) _ _ last) (c.closer.ensures.0 it_is)
