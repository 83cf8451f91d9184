use Rattle.std.proofs.Common.{length, ap}
use Rattle.kad_bencode.proofs.piece.texts_length.Goals as goal

pub returns : goal.returns
returns c ts a = ap length a.text
