use Rattle.kad_bencode.proofs.Pieces.{list_told}
use Rattle.kad_bencode.proofs.piece.opens_list.Goals as goal

pub returns : goal.returns
returns c v s = list_told c.args.bytes.now v s c.has_byte.result c.has_byte.ensures
