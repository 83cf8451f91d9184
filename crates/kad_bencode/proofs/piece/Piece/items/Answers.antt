use Rattle.std.proofs.Common.{ap, ◌∙◌}
use Rattle.kad_bencode.specs.Parts.{list_of}
use Rattle.kad_bencode.specs.Naming.{named}
use Rattle.kad_bencode.proofs.Listing.{items_named}
use Rattle.kad_bencode.proofs.piece.Piece.items.Goals as goal

pub invariant_of-result : goal.invariant_of-result
invariant_of-result c = (items_named (named c.self.inside.bytes.now) c.in-Some.bytes.now (c.in-Some.ensures.list (named c.self.inside.bytes.now) c.self.invariant)).0

pub returns-in-Some : goal.returns-in-Some
returns-in-Some c = (items_named (named c.self.inside.bytes.now) c.in-Some.bytes.now (c.in-Some.ensures.list (named c.self.inside.bytes.now) c.self.invariant)).1 ∙ ap list_of c.self.view_is
