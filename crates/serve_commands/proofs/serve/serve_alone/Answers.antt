use Rattle.command_base.specs.Called.{called_with}
use Rattle.serve_commands.specs.Served.{alone, some_alone}
use Rattle.command_base.proofs.Results.{err_then, ok_then}
use Rattle.serve_commands.proofs.Serving.{node_begun, served_all, served_some}
use Rattle.kad_base.proofs.Failing.{fails_later}
use Rattle.serve_commands.proofs.serve.serve_alone.Goals as goal

pub returns-clause-ok : goal.returns-clause-ok
returns-clause-ok g c =
    let called = called_with c.args.call.now.random (g.C.PacedCheck.slow c.args.call.now.check.now) (g.G.SealCheck.accepted c.args.call.now.seal.now) (g.G.Seal.tag_of c.args.call.now.seal.now) in
    let begins = node_begun c.args.service.now c.args.call.now.random c.args.host.table c.args.host.proofs c.args.own c.now-began.result c.new-node.result c.requires.own c.new-node.ensures in
    ok_then c.serve_loop.result.1 _ _ c.serve_loop.ensures.ok (λ counts p.
    alone c.requires.alone (served_all c.args.service.now called c.args.host.table c.serve_loop.result.0 c.args.host.proofs c.new-node.result c.lasts.result c.now-began.result counts.received counts.replied _ _ _ begins c.lasts.ensures c.now-began.ensures.told p))

pub returns-clause-begun : goal.returns-clause-begun
returns-clause-begun g c =
    let called = called_with c.args.call.now.random (g.C.PacedCheck.slow c.args.call.now.check.now) (g.G.SealCheck.accepted c.args.call.now.seal.now) (g.G.Seal.tag_of c.args.call.now.seal.now) in
    let begins = node_begun c.args.service.now c.args.call.now.random c.args.host.table c.args.host.proofs c.args.own c.now-began.result c.new-node.result c.requires.own c.new-node.ensures in
    err_then c.serve_loop.result.1 _ _ c.serve_loop.ensures.begun (λ fault p.
    some_alone c.requires.alone c.serve_loop.result.0 (served_some c.args.service.now called c.args.host.table c.serve_loop.result.0 c.args.host.proofs c.new-node.result c.lasts.result c.now-began.result _ _ _ begins c.lasts.ensures c.now-began.ensures.told p))

pub returns-clause-last : goal.returns-clause-last
returns-clause-last g c is = fails_later _ _ _ _ _ c.now-began.ensures.no_recv_fault (c.serve_loop.ensures.last is)
