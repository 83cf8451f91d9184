use Rattle.std.proofs.Common.{◌≡◌, get_or, sym, ◌∙◌, arith}
use Rattle.std.specs.Prelude.{bit_xor}
use Rattle.kad_distance.proofs.ByByte.{same_byte, less_byte, more_byte}
use Rattle.kad_distance.proofs.compare_distances.Goals as goal

pub loop-at-preserved : goal.loop-at-preserved
loop-at-preserved c =
    let t = c.args.target.now.0 in
    let same : bit_xor (get_or t c.loop-at.at 0) (get_or c.args.a.now.0 c.loop-at.at 0) ≡ bit_xor (get_or t c.loop-at.at 0) (get_or c.args.b.now.0 c.loop-at.at 0) = omega arith in
    c.loop-at.invariant ∙ same_byte t c.args.a.now.0 c.args.b.now.0 c.loop-at.at (omega arith) (omega arith) (omega arith) same

pub returns-then-one-two : goal.returns-then-one-two
returns-then-one-two c =
    sym (
    c.loop-at.invariant
    ∙ less_byte c.args.target.now.0 c.args.a.now.0 c.args.b.now.0 c.loop-at.at (omega arith) (omega arith) (omega arith) c.if-one-two.true
    )

pub returns-then-one-two-2 : goal.returns-then-one-two-2
returns-then-one-two-2 c =
    sym (
    c.loop-at.invariant
    ∙ more_byte c.args.target.now.0 c.args.a.now.0 c.args.b.now.0 c.loop-at.at (omega arith) (omega arith) (omega arith) c.if-one-two-2.true
    )
