use Rattle.std.proofs.Common.{rules, ◌≡◌, subst, sym, w64, to_z, of_z}
use Rattle.std.specs.Prelude.{ℤ, MatchOption}
use Rattle.kad_krpc.specs.Views.{message_seen}
use Rattle.kad_krpc.specs.declared.borrowed.View.{View}
use Rattle.kad_krpc.specs.declared.message.Message.TheVariants as message
use Rattle.lookup_core.specs.Says.{SaysAll, SaysNothing}
use Rattle.lookup_core.specs.Reply.{said_seen}
use Rattle.lookup_core.proofs.reply.reply_in.Goals as goal

pub returns-in-Fault-clause-says : goal.returns-in-Fault-clause-says
returns-in-Fault-clause-says c =
    let code : to_z w64 (of_z w64 c.in-Fault.code) ≡ c.in-Fault.code = search rules in
    subst (λ (v : View). MatchOption c.error_to.result (SaysNothing (message_seen v)) (λ said. SaysAll (message_seen v) (said_seen said))) (sym c.in-Fault.is)
    (subst (λ (n : ℤ). MatchOption c.error_to.result (SaysNothing (message.Fault c.in-Fault.tx.now n c.in-Fault.text.now)) (λ said. SaysAll (message.Fault c.in-Fault.tx.now n c.in-Fault.text.now) (said_seen said))) code (c.error_to.ensures.says c.in-Fault.text.now))
