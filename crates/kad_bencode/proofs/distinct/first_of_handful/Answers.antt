use Rattle.std.proofs.Common.{arith, subst, take}
use Rattle.kad_bencode.specs.Filing.{IsNowhere}
use Rattle.kad_bencode.proofs.Filing.{differ_next}
use Rattle.kad_bencode.proofs.distinct.first_of_handful.Goals as goal

pub loop-i-init : goal.loop-i-init
loop-i-init c = record { within = omega arith; differ = λ j k key h w s t. absurd (omega (arith, w)) }

pub loop-i-preserved : goal.loop-i-preserved
loop-i-preserved c = record {
  within = (let t = c.loop-i-test.true in omega (arith, t));
  differ = differ_next c.args.bytes.now c.args.places.now c.loop-i.i c.loop-i.invariant.differ c.loop-i-test.true
      (λ key s. subst (IsNowhere c.args.bytes.now (take c.loop-i.i c.args.places.now)) (c.key_at-key.ensures key s) (c.is_among.ensures c.if-is_among.false));
}
