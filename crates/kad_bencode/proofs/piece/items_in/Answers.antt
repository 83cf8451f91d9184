use Rattle.std.proofs.Common.{arith}
use Rattle.kad_bencode.proofs.Pieces.{no_list}
use Rattle.kad_bencode.proofs.Listing.{is_list, list_long}
use Rattle.kad_bencode.proofs.piece.items_in.Goals as goal

pub returns-then-not-has_byte-clause-list : goal.returns-then-not-has_byte-clause-list
returns-then-not-has_byte-clause-list c v s = no_list c.args.bytes.now v s c.if-not-has_byte.ensures

pub returns-then-bytes-lt2-clause-list : goal.returns-then-bytes-lt2-clause-list
returns-then-bytes-lt2-clause-list c v s = absurd (let l = list_long c.args.bytes.now v s c.if-not-has_byte.ensures in let f : ⊥ = omega (arith, l, c.if-bytes-lt2.true) in f)

pub returns-clause-list : goal.returns-clause-list
returns-clause-list c v s = is_list c.args.bytes.now v s c.if-not-has_byte.ensures _ (omega arith)
