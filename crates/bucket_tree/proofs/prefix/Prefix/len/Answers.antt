use Rattle.bucket_tree.proofs.OneBit.{len-is}
use Rattle.bucket_tree.proofs.prefix.Prefix.len.Goals as goal

pub returns-clause-count : goal.returns-clause-count
returns-clause-count c = len-is c.self.inside.len c.self.inside.bits.0 c.args.self.now c.self.view_is
