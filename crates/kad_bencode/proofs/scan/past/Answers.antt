use Rattle.std.proofs.Common.{[], refl, arith}
use Rattle.kad_bencode.specs.Machine.{AsValue}
use Rattle.kad_bencode.proofs.Skipping.{inside}
use Rattle.kad_bencode.proofs.scan.past.Goals as goal

pub loop-at-init : goal.loop-at-init
loop-at-init c = record {
  within = omega arith;
  few = omega arith;
  amid = λ t b. record { place = AsValue []; reached = refl; open_ones = refl; within = omega arith };
}

pub returns-then-left-eq0-clause-ends : goal.returns-then-left-eq0-clause-ends
returns-then-left-eq0-clause-ends c t b = (c.in-Some.ensures.reads t b (c.loop-at.invariant.amid t b)).ends c.if-left-eq0.true

pub loop-at-preserved : goal.loop-at-preserved
loop-at-preserved c = record {
  within = omega (arith, c.in-Some.ensures.moves);
  few = omega (arith, c.in-Some.ensures.moves);
  amid = λ t b. (c.in-Some.ensures.reads t b (c.loop-at.invariant.amid t b)).goes_on (omega (arith, c.if-left-eq0.false));
}

pub returns-in-None-clause-ends : goal.returns-in-None-clause-ends
returns-in-None-clause-ends c t b = absurd (c.in-None.ensures.reads t b (c.loop-at.invariant.amid t b))

pub returns-clause-ends : goal.returns-clause-ends
returns-clause-ends c t b =
    let i = inside c.args.bytes.now t b in
    let w = (c.loop-at.invariant.amid t b).within in
    omega (arith, i, w, c.loop-at-test.false)
