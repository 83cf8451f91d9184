use Rattle.std.proofs.Common.{ap, ◌∙◌}
use Rattle.kad_bencode.specs.Parts.{member_of}
use Rattle.kad_bencode.specs.Naming.{named}
use Rattle.kad_bencode.proofs.Pieces.{shown_named}
use Rattle.kad_bencode.proofs.piece.Piece.get.Goals as goal

pub invariant_of-result : goal.invariant_of-result
invariant_of-result c = (shown_named c.in-Some.bytes.now _ (c.in-Some.ensures (named c.self.inside.bytes.now) c.self.invariant)).0

pub returns-in-Some : goal.returns-in-Some
returns-in-Some c =
    (shown_named c.in-Some.bytes.now _ (c.in-Some.ensures (named c.self.inside.bytes.now) c.self.invariant)).1 ∙ ap (λ v. member_of v c.args.key.now) c.self.view_is
