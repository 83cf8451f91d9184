use Rattle.contact_table.proofs.Outcome.{one-reply, one-state, run-replies, run-state}
use Rattle.contact_table.proofs.laws.one_outcome.Goals as goal

pub returns : goal.returns
returns c = record { reply = one-reply; state = one-state; run_replies = run-replies; run_state = run-state }
