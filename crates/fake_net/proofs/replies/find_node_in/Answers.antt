use Rattle.std.proofs.Common.{◌∙◌}
use Rattle.kad_krpc.specs.Views.{message_seen}
use Rattle.fake_net.proofs.Answering.{find_only, refused_find}
use Rattle.fake_net.proofs.replies.find_node_in.Goals as goal

pub returns-in-Ok-clause-only : goal.returns-in-Ok-clause-only
returns-in-Ok-clause-only c tx target q = c.find_node_of.ensures ∙ find_only _ _ _ (message_seen c.in-Ok.view) c.in-Ok.ensures.only q

pub returns-in-Err-clause-only : goal.returns-in-Err-clause-only
returns-in-Err-clause-only c tx target q = refused_find _ _ _ _ _ c.in-Err.ensures.only q
