use Rattle.node_serve.proofs.Once.{one_reply, one_next}
use Rattle.node_serve.proofs.laws.one_answer.Goals as goal

pub returns : goal.returns
returns c = record { reply = one_reply; node = one_next }
