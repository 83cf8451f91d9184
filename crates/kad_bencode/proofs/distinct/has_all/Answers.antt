use Rattle.std.proofs.Common.{arith, get_or}
use Rattle.kad_bencode.proofs.Filing.{all_more}
use Rattle.kad_bencode.proofs.distinct.has_all.Goals as goal

pub loop-i-preserved : goal.loop-i-preserved
loop-i-preserved c = record {
  within = (let t = c.loop-i-test.true in omega (arith, t));
  all = all_more c.args.order.now c.loop-i.i c.loop-i.invariant.all (get_or c.args.ranks.now c.loop-i.i 0)
      (let h = c.if-rank-order.false in omega (arith, h)) (let e = c.if-order-rank.false in omega (arith, e));
}
