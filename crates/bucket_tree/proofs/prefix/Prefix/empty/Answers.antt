use Rattle.bucket_tree.proofs.OneBit.{bits_from-none}
use Rattle.bucket_tree.proofs.prefix.Prefix.empty.Goals as goal

pub returns : goal.returns
returns c = bits_from-none 0 _
