use Rattle.std.proofs.Common.{◌≤◌, length, arith, rules}
use Rattle.kad_base.proofs.Zeros.{zeros_step, zeros_upto, zeros_end, zeros_whole}
use Rattle.kad_base.proofs.bits.leading_zeros.Goals as goal

pub returns-then-byte-ne0-clause-zeros : goal.returns-then-byte-ne0-clause-zeros
returns-then-byte-ne0-clause-zeros c =
    zeros_upto c.args.bytes.now c.loop-byte.bits c.loop-byte.byte-index (omega arith) (λ i. search rules) c.if-byte-ne0.true c.loop-byte.invariant.passed

pub returns-then-byte-ne0-clause-no_more : goal.returns-then-byte-ne0-clause-no_more
returns-then-byte-ne0-clause-no_more c =
    λ lt. zeros_end c.args.bytes.now c.loop-byte.bits c.loop-byte.byte-index (omega arith) (λ i. search rules) c.if-byte-ne0.true c.loop-byte.invariant.passed

pub loop-byte-preserved : goal.loop-byte-preserved
loop-byte-preserved c = record {
  eight = omega arith;
  passed = zeros_step c.args.bytes.now c.loop-byte.bits c.loop-byte.byte-index (omega arith) c.if-byte-ne0.false c.loop-byte.invariant.passed;
}

pub returns-clause-zeros : goal.returns-clause-zeros
returns-clause-zeros c =
    let past : length c.args.bytes.now ≤ c.loop-byte.byte-index = omega arith in
    zeros_whole c.args.bytes.now c.loop-byte.bits c.loop-byte.byte-index past c.loop-byte.invariant.passed
