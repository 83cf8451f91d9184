use Rattle.std.proofs.Common.{sym}
use Rattle.kad_bencode.specs.Naming.{trees_in}
use Rattle.kad_bencode.proofs.piece.Items.text_len.Goals as goal

pub returns : goal.returns
returns c = (trees_in c.self.inside.bytes.now, sym c.self.view_is, c.texts_length.ensures (trees_in c.self.inside.bytes.now) c.self.invariant)
