use Rattle.std.proofs.Common.{length, not, ap, arith}
use Rattle.bucket_tree.specs.Rows.{same_id}
use Rattle.bucket_tree.proofs.Counted.{filter-few}
use Rattle.bucket_tree.proofs.bucket.spare.Goals as goal

pub make_room-requires-clause-few : goal.make_room-requires-clause-few
make_room-requires-clause-few c =
    let few = filter-few (λ x. not (same_id x.id c.args.contact.id)) c.reserve_exact.new.self.items in
    let kept = ap length c.take_id_out.ensures.items in
    let same = ap length c.reserve_exact.ensures.items in
    let k = c.requires.few in
    omega (arith, few, kept, same, k)
