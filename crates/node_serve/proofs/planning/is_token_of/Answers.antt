use Rattle.node_serve.specs.Calls.{is_accepted}
use Rattle.node_serve.proofs.Accepting.{accepted, same_test}
use Rattle.node_serve.proofs.planning.is_token_of.Goals as goal

pub returns : goal.returns
returns c =
    let t = c.args.tokens.now in
    same_test c.accepts.result (is_accepted t c.args.ip c.args.at c.args.token.now) c.accepts.ensures (accepted t c.args.ip c.args.at c.args.token.now)
