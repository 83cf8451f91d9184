use Rattle.kad_bencode.proofs.laws.one_value.Goals as goal
use Rattle.kad_bencode.proofs.Faults.{one_value}

pub returns : goal.returns
returns c = one_value
