use Rattle.std.proofs.Common.{arith}
use Rattle.kad_bencode.proofs.Looking.{never_short}
use Rattle.kad_bencode.proofs.Parting.{none_parted, passed_on, parted_here, parted_last}
use Rattle.kad_bencode.proofs.place.length_behind.Goals as goal

pub loop-rest-init : goal.loop-rest-init
loop-rest-init c = record { within = omega arith; so_far = none_parted c.args.key.now c.args.pairs.now }

pub loop-rest-preserved : goal.loop-rest-preserved
loop-rest-preserved c = record {
  within = (let s = c.in-Some.ensures.shorter in let w = c.loop-rest.invariant.within in omega (arith, s, w));
  so_far = λ ps a.
      passed_on c.args.key.now c.loop-rest.rest.now c.in-Some.name.now c.in-Some.field-0-1.now c.in-Some.others.now c.loop-rest-test.true c.in-Some.ensures.reads ps (c.loop-rest.invariant.so_far ps a) c.if-not-is_above.ensures;
}

pub returns-then-not-is_above-clause-parts : goal.returns-then-not-is_above-clause-parts
returns-then-not-is_above-clause-parts c ps a =
    parted_here c.args.key.now c.loop-rest.rest.now c.in-Some.name.now c.in-Some.field-0-1.now c.in-Some.others.now c.loop-rest-test.true c.in-Some.ensures.reads ps (c.loop-rest.invariant.so_far ps a) c.if-not-is_above.ensures

pub returns-in-None-clause-parts : goal.returns-in-None-clause-parts
returns-in-None-clause-parts c ps a =
    let s = c.loop-rest.invariant.so_far ps a in absurd (never_short c.loop-rest.rest.now c.loop-rest-test.true c.in-None.ensures.reads s.others s.texts)

pub returns-clause-parts : goal.returns-clause-parts
returns-clause-parts c ps a = parted_last c.args.key.now c.loop-rest.rest.now ps (c.loop-rest.invariant.so_far ps a) c.loop-rest-test.false
