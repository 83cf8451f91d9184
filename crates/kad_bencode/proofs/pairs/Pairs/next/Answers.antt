use Rattle.std.proofs.Common.{sym, ◌∙◌}
use Rattle.kad_bencode.specs.Naming.{pairs_in}
use Rattle.kad_bencode.proofs.Paired.{pair_named, pair_invariants}
use Rattle.kad_bencode.proofs.pairs.Pairs.next.Goals as goal

pub invariant_of-result : goal.invariant_of-result
invariant_of-result c = (pair_invariants (pairs_in c.self.inside.bytes.now) c.in-Some.key.now c.in-Some.bytes.now c.in-Some.rest.now (c.in-Some.ensures.first (pairs_in c.self.inside.bytes.now) c.self.invariant)).0

pub invariant_of-self : goal.invariant_of-self
invariant_of-self c = (pair_invariants (pairs_in c.self.inside.bytes.now) c.in-Some.key.now c.in-Some.bytes.now c.in-Some.rest.now (c.in-Some.ensures.first (pairs_in c.self.inside.bytes.now) c.self.invariant)).1

pub returns-in-Some : goal.returns-in-Some
returns-in-Some c = sym c.self.view_is ∙ pair_named (pairs_in c.self.inside.bytes.now) c.in-Some.key.now c.in-Some.bytes.now c.in-Some.rest.now (c.in-Some.ensures.first (pairs_in c.self.inside.bytes.now) c.self.invariant)
