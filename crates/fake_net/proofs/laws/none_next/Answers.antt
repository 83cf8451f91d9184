use Rattle.fake_net.proofs.Nexts.{next_none}
use Rattle.fake_net.proofs.laws.none_next.Goals as goal

pub returns : goal.returns
returns c = next_none
