use Rattle.std.proofs.Common.{subst}
use Rattle.node_serve.specs.Calls.{on_peers}
use Rattle.serve_crew.specs.Hands.{Hands, does, hands}
use Rattle.serve_crew.proofs.Growing.{does_peers}
use Rattle.serve_crew.proofs.worker.ServeWorker.call_peers.Goals as goal

pub returns-clause-does : goal.returns-clause-does
returns-clause-does g c =
    let i = c.self.inside in
    let new : Hands = hands i.table c.reply_to.new.pass i.items in
    subst (λ h. does h (on_peers c.args.call c.reply_to.result) new) c.self.view_is (does_peers i.table i.peers c.reply_to.new.pass i.items c.args.call c.reply_to.result c.reply_to.ensures.same c.reply_to.ensures.replied)
