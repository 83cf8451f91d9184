use Rattle.fake_net.proofs.Nexts.{next_once}
use Rattle.fake_net.proofs.laws.one_next.Goals as goal

pub returns : goal.returns
returns c = next_once
