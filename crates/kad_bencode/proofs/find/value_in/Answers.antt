use Rattle.std.proofs.Common.{arith}
use Rattle.kad_bencode.proofs.Looking.{are_pairs, long, shows}
use Rattle.kad_bencode.proofs.find.value_in.Goals as goal

pub returns-then-bytes-lt2 : goal.returns-then-bytes-lt2
returns-then-bytes-lt2 c pairs s = let l = long c.args.bytes.now pairs s in absurd (let f : ⊥ = omega (arith, l, c.if-bytes-lt2.true) in f)

pub returns : goal.returns
returns c pairs s = shows c.args.bytes.now pairs s c.args.key.now _ (c.find.ensures _ (are_pairs c.args.bytes.now pairs s _ (omega arith)))
