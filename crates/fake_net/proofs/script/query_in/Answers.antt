use Rattle.std.proofs.Common.{◌∙◌}
use Rattle.kad_krpc.specs.Views.{message_seen}
use Rattle.fake_net.proofs.Asking.{read_only, refused_only}
use Rattle.fake_net.proofs.script.query_in.Goals as goal

pub returns-in-Ok-clause-only : goal.returns-in-Ok-clause-only
returns-in-Ok-clause-only c tx q = c.query_tx.ensures ∙ read_only _ _ (message_seen c.in-Ok.view) c.in-Ok.ensures.only q

pub returns-in-Err-clause-only : goal.returns-in-Err-clause-only
returns-in-Err-clause-only c tx q = refused_only _ _ _ _ c.in-Err.ensures.only q
