use Rattle.std.proofs.Common.{arith}
use Rattle.kad_bencode.proofs.Parting.{inner_long, inner_pairs, placed}
use Rattle.kad_bencode.proofs.place.place_for.Goals as goal

pub returns-then-bytes-lt2-clause-place : goal.returns-then-bytes-lt2-clause-place
returns-then-bytes-lt2-clause-place c pairs e f h value =
    absurd (let l = inner_long c.args.bytes.now c.args.key.now pairs e in omega (arith, l, c.if-bytes-lt2.true))

pub returns-clause-place : goal.returns-clause-place
returns-clause-place c pairs e f h value =
    placed c.args.bytes.now c.args.key.now pairs e _ (c.length_behind.ensures.parts pairs (inner_pairs c.args.bytes.now c.args.key.now pairs e _ (omega arith) f)) _ (omega arith) h value
