use Rattle.std.proofs.Common.{arith}
use Rattle.bucket_tree.proofs.OneBit.{bit-set_same, bit-set_other}
use Rattle.bucket_tree.proofs.bits.with_bit.Goals as goal

pub returns-clause-here : goal.returns-clause-here
returns-clause-here c = bit-set_same c.args.id.now.0 c.args.at (omega arith)

pub returns-clause-others : goal.returns-clause-others
returns-clause-others c = λ i lt ne. bit-set_other c.args.id.now.0 c.args.at (omega arith) i ne
