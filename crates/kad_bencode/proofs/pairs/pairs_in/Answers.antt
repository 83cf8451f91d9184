use Rattle.std.proofs.Common.{arith}
use Rattle.kad_bencode.proofs.Pieces.{no_dict}
use Rattle.kad_bencode.proofs.Paired.{is_dict_of, dict_long}
use Rattle.kad_bencode.proofs.pairs.pairs_in.Goals as goal

pub returns-then-not-has_byte-clause-pairs : goal.returns-then-not-has_byte-clause-pairs
returns-then-not-has_byte-clause-pairs c v s = no_dict c.args.bytes.now v s c.if-not-has_byte.ensures

pub returns-then-bytes-lt2-clause-pairs : goal.returns-then-bytes-lt2-clause-pairs
returns-then-bytes-lt2-clause-pairs c v s = absurd (let l = dict_long c.args.bytes.now v s c.if-not-has_byte.ensures in let f : ⊥ = omega (arith, l, c.if-bytes-lt2.true) in f)

pub returns-clause-pairs : goal.returns-clause-pairs
returns-clause-pairs c v s = is_dict_of c.args.bytes.now v s c.if-not-has_byte.ensures _ (omega arith)
