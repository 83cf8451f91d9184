use Rattle.std.proofs.Common.{◌≡◌, true}
use Rattle.kad_bencode.proofs.Filing.{differ_so}
use Rattle.kad_bencode.proofs.distinct.differ.Goals as goal

pub returns : goal.returns
returns c h = differ_so c.args.bytes.now c.args.places.now c.args.order.now
    (let t : c.ascends.result ≡ true = (let n = c.if-not-ascends.false in cc) in c.ascends.ensures t) (c.has_all.ensures h)
