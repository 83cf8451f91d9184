use Rattle.std.proofs.Common.{arith, subst}
use Rattle.std.proofs.lemmas.List.{take_all}
use Rattle.kad_bencode.specs.Filing.{IsNowhere}
use Rattle.kad_bencode.proofs.Filing.{nowhere_more}
use Rattle.kad_bencode.proofs.distinct.is_among.Goals as goal

pub loop-i-init : goal.loop-i-init
loop-i-init c = record { within = omega arith; nowhere = λ j h s. absurd (omega (arith, h)) }

pub loop-i-preserved : goal.loop-i-preserved
loop-i-preserved c = record {
  within = (let t = c.loop-i-test.true in omega (arith, t));
  nowhere = nowhere_more c.args.bytes.now c.args.places.now c.args.key.now c.loop-i.i c.loop-i.invariant.nowhere c.loop-i-test.true
      (λ s. let e = c.key_at.ensures c.args.key.now s in let f = c.same.ensures.1 e in let n = c.if-same.false in cc);
}

pub returns : goal.returns
returns c h = subst (λ q. IsNowhere c.args.bytes.now q c.args.key.now)
    (take_all c.loop-i.i c.args.places.now (let t = c.loop-i-test.false in omega (arith, t))) c.loop-i.invariant.nowhere
