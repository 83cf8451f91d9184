use Rattle.std.proofs.Common.{arith}
use Rattle.kad_base.proofs.Xors.{xor_whole}
use Rattle.kad_base.proofs.bits.xor.Goals as goal

pub returns : goal.returns
returns c = xor_whole c.loop-i.bytes c.args.a.now c.args.b.now 20 c.loop-i.invariant.long c.told-a c.told-b (λ i lt. c.loop-i.invariant.each i (omega arith))
