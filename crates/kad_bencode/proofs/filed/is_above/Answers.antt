use Rattle.std.proofs.Common.{arith}
use Rattle.kad_bencode.proofs.Above.{ends}
use Rattle.kad_bencode.proofs.filed.is_above.Goals as goal

pub returns : goal.returns
returns c =
    let w = c.loop-at.invariant.within in
    let t = c.loop-at-test.false in
    ends c.args.a.now c.args.b.now c.loop-at.at c.loop-at.invariant.left (omega (arith, w, t))
