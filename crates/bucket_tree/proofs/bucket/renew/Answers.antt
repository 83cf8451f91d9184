use Rattle.std.proofs.Common.{◌<◌, length, vec_capacity, arith}
use Rattle.bucket_tree.proofs.RowKept.{without-room}
use Rattle.bucket_tree.proofs.bucket.renew.Goals as goal

pub unreachable-requires : goal.unreachable-requires
unreachable-requires c =
    let fewer : length c.take_out.new.entries.items < vec_capacity c.args.live.now =
    without-room c.args.contact c.args.live.now.items c.take_out.new.entries.items (vec_capacity c.args.live.now) c.take_out.ensures.items c.requires.known c.requires.room in
    let same = c.take_out.ensures.capacity in
    let full = c.in-Err.ensures.full in
    grind arith
