use Rattle.kad_text.proofs.Cutting.{cut_here, cut_nowhere}
use Rattle.kad_text.proofs.cut.cut.Goals as goal

pub returns-then-byte-at : goal.returns-then-byte-at
returns-then-byte-at c = cut_here c.args.text.now c.args.at c.loop-i.i c.loop-i-test.true c.if-byte-at.true c.loop-i.invariant

pub returns : goal.returns
returns c = cut_nowhere _ _ c.loop-i.i c.loop-i-test.false c.loop-i.invariant
