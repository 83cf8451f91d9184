use Rattle.std.proofs.Common.{subst, None}
use Rattle.kad_bencode.specs.Finding.{Shows}
use Rattle.kad_bencode.proofs.Pieces.{no_member, member_shown}
use Rattle.kad_bencode.proofs.piece.member_in.Goals as goal

pub returns-then-not-has_byte : goal.returns-then-not-has_byte
returns-then-not-has_byte c v s = subst (Shows None) (no_member c.args.bytes.now v s c.args.key.now c.if-not-has_byte.ensures) tt

pub returns : goal.returns
returns c v s = member_shown c.args.bytes.now v s c.args.key.now _ c.if-not-has_byte.ensures c.value_in.ensures
