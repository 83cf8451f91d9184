use Rattle.std.proofs.Common.{arith, rules}
use Rattle.std.specs.Ordering.{is_lt}
use Rattle.std.proofs.lemmas.List.Sorted.{IsPartitionPoint-from_clause}
use Rattle.kad_distance.specs.Order.{closeness}
use Rattle.kad_distance.proofs.Orders.{closeness_total}
use Rattle.kad_distance.proofs.Least.{sorted_parts, count_front}
use Rattle.kad_distance.proofs.closest.place.Goals as goal

pub returns-clause-count : goal.returns-clause-count
returns-clause-count c =
    let R = closeness c.args.target.now in
    let parted = sorted_parts (closeness_total c.args.target.now) c.args.list.now c.args.contact.now c.requires in
    let point = IsPartitionPoint-from_clause (λ y. is_lt (R y c.args.contact.now)) _ _ c.partition_point.ensures.partitioned parted (λ a r q k. search rules) in
    count_front (λ y. is_lt (R y c.args.contact.now)) c.args.list.now _ c.partition_point.ensures.bound (λ k d lt. point.0 k d (omega arith) lt) point.1
