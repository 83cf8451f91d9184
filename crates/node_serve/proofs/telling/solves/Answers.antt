use Rattle.node_serve.specs.Vouching.{solves_both}
use Rattle.node_serve.proofs.Accepting.{same_test}
use Rattle.node_serve.proofs.Solving.{solved}
use Rattle.node_serve.proofs.telling.solves.Goals as goal

pub returns : goal.returns
returns c =
    let id = c.args.contact.id.0 in
    same_test c.passes.result (solves_both c.args.c1 c.args.c2 id c.args.proof) c.passes.ensures (solved c.args.c1 c.args.c2 id c.args.proof)
