use Rattle.kad_bencode.proofs.Measuring.{same_length}
use Rattle.kad_bencode.proofs.measured.length_in.Goals as goal

pub returns : goal.returns
returns c v s = same_length c.args.bytes.now v s
