use Rattle.kad_bencode.proofs.Pieces.{dict_told}
use Rattle.kad_bencode.proofs.piece.opens_dict.Goals as goal

pub returns : goal.returns
returns c v s = dict_told c.args.bytes.now v s c.has_byte.result c.has_byte.ensures
