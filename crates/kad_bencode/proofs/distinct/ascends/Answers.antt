use Rattle.std.proofs.Common.{arith, ◌≡◌, true}
use Rattle.kad_bencode.proofs.Filing.{no_chain, chain_more, chain_whole}
use Rattle.kad_bencode.proofs.distinct.ascends.Goals as goal

pub loop-i-init : goal.loop-i-init
loop-i-init c = record {
  within = omega arith;
  chain = no_chain c.args.bytes.now c.args.places.now c.args.order.now _;
}

pub loop-i-preserved : goal.loop-i-preserved
loop-i-preserved c = record {
  within = (let t = c.loop-i-test.true in omega (arith, t));
  chain = chain_more c.args.bytes.now c.args.places.now c.args.order.now c.loop-i.i c.loop-i.last.now c.loop-i.invariant.chain
      c.key_in-key.result.now (λ k w s. c.key_in-key.ensures k w s)
      (λ h. let t : c.follows.result ≡ true = (let n = c.if-not-follows.false in cc) in c.follows.ensures.above t h);
}

pub returns : goal.returns
returns c h = chain_whole c.args.bytes.now c.args.places.now c.args.order.now c.loop-i.i c.loop-i.last.now
    c.loop-i.invariant.chain (let w = c.loop-i.invariant.within in let t = c.loop-i-test.false in omega (arith, w, t))
