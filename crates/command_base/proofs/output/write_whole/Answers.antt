use Rattle.std.proofs.Common.{inr, arith, refl, ◌∙◌}
use Rattle.std.proofs.lemmas.Grind.{common_steps}
use Rattle.std.proofs.Math.Seq.{take-add}
use Rattle.kad_base.proofs.Failing.{fails_here, fails_later}
use Rattle.kad_base.proofs.Grown.{grows_then}
use Rattle.command_base.proofs.Parts.{front, rest_whole}
use Rattle.command_base.proofs.Exactly.{rose_after}
use Rattle.command_base.proofs.output.write_whole.Goals as goal

pub returns-in-Err-clause-err : goal.returns-in-Err-clause-err
returns-in-Err-clause-err g c = grows_then _ _ _ _ _ _ c.writing.invariant.written c.in-Err.ensures.err (front c.args.bytes.now c.writing.at)

pub returns-in-Err-clause-writes : goal.returns-in-Err-clause-writes
returns-in-Err-clause-writes g c =
    inr (rose_after _ _ _ c.writing.invariant.faults c.in-Err.ensures.failed, grows_then _ _ _ _ _ _ c.writing.invariant.written c.in-Err.ensures.err (front c.args.bytes.now c.writing.at))

pub returns-in-Err-clause-last : goal.returns-in-Err-clause-last
returns-in-Err-clause-last g c = fails_later _ _ _ _ _ c.writing.invariant.well (fails_here _ _ _ _ c.in-Err.ensures.failed c.in-Err.ensures.err)

pub writing-preserved : goal.writing-preserved
writing-preserved g c = record {
  within = grind (arith, common_steps, c.in-Ok.ensures.bound);
  written = grows_then _ _ _ _ _ _ c.writing.invariant.written c.in-Ok.ensures.ok (λ t u p q. rw (take-add, p, q, rest_whole c.args.bytes.now c.writing.at) refl);
  faults = omega (arith, c.writing.invariant.faults, c.give.ensures.faults);
  well = c.in-Ok.ensures.well ∙ c.writing.invariant.well;
}
