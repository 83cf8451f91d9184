use Rattle.std.proofs.Common.{subst}
use Rattle.kad_bencode.specs.Naming.{named, IsDictWith, named_pairs}
use Rattle.kad_bencode.proofs.Paired.{dict_named}
use Rattle.kad_bencode.proofs.piece.Piece.pairs.Goals as goal

pub invariant_of-result : goal.invariant_of-result
invariant_of-result c = (dict_named (named c.self.inside.bytes.now) c.in-Some.bytes.now (c.in-Some.ensures.pairs (named c.self.inside.bytes.now) c.self.invariant)).0

pub returns-in-Some : goal.returns-in-Some
returns-in-Some c = subst (λ v. IsDictWith v (named_pairs c.in-Some.bytes.now)) c.self.view_is (dict_named (named c.self.inside.bytes.now) c.in-Some.bytes.now (c.in-Some.ensures.pairs (named c.self.inside.bytes.now) c.self.invariant)).1
