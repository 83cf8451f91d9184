use Rattle.bucket_tree.proofs.OneBit.{stored-bits}
use Rattle.bucket_tree.proofs.prefix.Prefix.bits.Goals as goal

pub returns : goal.returns
returns c = stored-bits c.self.inside.bits c.self.inside.len c.args.self.now c.self.view_is c.self.invariant
