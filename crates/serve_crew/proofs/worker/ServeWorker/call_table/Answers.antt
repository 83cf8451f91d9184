use Rattle.std.proofs.Common.{subst}
use Rattle.node_serve.specs.Calls.{on_table}
use Rattle.serve_crew.specs.Hands.{Hands, does, hands}
use Rattle.serve_crew.proofs.Growing.{does_table}
use Rattle.serve_crew.proofs.worker.ServeWorker.call_table.Goals as goal

pub returns-clause-does : goal.returns-clause-does
returns-clause-does g c =
    let i = c.self.inside in
    let new : Hands = hands c.reply_to.new.pass i.peers i.items in
    subst (λ h. does h (on_table c.args.call c.reply_to.result) new) c.self.view_is (does_table i.table c.reply_to.new.pass i.peers i.items c.args.call c.reply_to.result c.reply_to.ensures.same c.reply_to.ensures.replied)
