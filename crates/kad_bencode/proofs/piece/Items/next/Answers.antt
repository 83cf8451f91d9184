use Rattle.std.proofs.Common.{sym, ◌∙◌}
use Rattle.kad_bencode.specs.Naming.{trees_in}
use Rattle.kad_bencode.proofs.Listing.{cut_named, cut_invariants}
use Rattle.kad_bencode.proofs.piece.Items.next.Goals as goal

pub invariant_of-result : goal.invariant_of-result
invariant_of-result c = (cut_invariants (trees_in c.self.inside.bytes.now) c.in-Some.bytes.now c.in-Some.rest.now (c.in-Some.ensures.cuts (trees_in c.self.inside.bytes.now) c.self.invariant)).0

pub invariant_of-self : goal.invariant_of-self
invariant_of-self c = (cut_invariants (trees_in c.self.inside.bytes.now) c.in-Some.bytes.now c.in-Some.rest.now (c.in-Some.ensures.cuts (trees_in c.self.inside.bytes.now) c.self.invariant)).1

pub returns-in-Some : goal.returns-in-Some
returns-in-Some c = sym c.self.view_is ∙ cut_named (trees_in c.self.inside.bytes.now) c.in-Some.bytes.now c.in-Some.rest.now (c.in-Some.ensures.cuts (trees_in c.self.inside.bytes.now) c.self.invariant)
