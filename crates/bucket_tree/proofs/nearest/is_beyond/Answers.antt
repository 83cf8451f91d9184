use Rattle.std.proofs.Common.{◌<◌, ◌-◌, length, arith}
use Rattle.std.proofs.lemmas.List.{get_or_default}
use Rattle.bucket_tree.proofs.Distances.{all_nearer_than}
use Rattle.bucket_tree.proofs.nearest.is_beyond.Goals as goal

pub returns-clause-farther : goal.returns-clause-farther
returns-clause-farther c = λ it_is.
    let some : 0 < length c.args.near.now = omega arith in
    let last : length c.args.near.now - 1 < length c.args.near.now = omega arith in
    all_nearer_than c.args.target.now c.args.near.now c.args.contact.now _ c.requires.sorted some (get_or_default c.args.near.now (length c.args.near.now - 1) _ _ last) (c.is_nearer.ensures it_is)
