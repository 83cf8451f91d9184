use Rattle.command_base.specs.Called.{called_with}
use Rattle.serve_commands.specs.Served.{at_once, some_at_once}
use Rattle.serve_commands.proofs.AtOnce.{begun_at_once, served_at_once, setting_is}
use Rattle.command_base.proofs.Results.{err_then, ok_then}
use Rattle.kad_base.proofs.Failing.{fails_later}
use Rattle.serve_commands.proofs.serve.serve_at_once.Goals as goal

pub returns-clause-ok : goal.returns-clause-ok
returns-clause-ok g c =
    let called = called_with c.args.call.now.random (g.C.PacedCheck.slow c.args.call.now.check.now) (g.G.SealCheck.accepted c.args.call.now.seal.now) (g.G.Seal.tag_of c.args.call.now.seal.now) in
    let is = setting_is c.args.service.now c.args.call.now.random c.args.host.proofs c.args.own c.limited.result c.requires.own c.limited.ensures in
    ok_then c.serve_many.result.1 _ _ c.serve_many.ensures.ok (λ counts p.
    at_once c.requires.several
    (served_at_once c.args.service.now called c.args.host.table c.serve_many.result.0 c.args.host.proofs _ c.lasts.result c.now-began.result counts.received counts.replied _ _ _ is c.lasts.ensures c.now-began.ensures.told p))

pub returns-clause-begun : goal.returns-clause-begun
returns-clause-begun g c =
    let called = called_with c.args.call.now.random (g.C.PacedCheck.slow c.args.call.now.check.now) (g.G.SealCheck.accepted c.args.call.now.seal.now) (g.G.Seal.tag_of c.args.call.now.seal.now) in
    let is = setting_is c.args.service.now c.args.call.now.random c.args.host.proofs c.args.own c.limited.result c.requires.own c.limited.ensures in
    err_then c.serve_many.result.1 _ _ c.serve_many.ensures.begun (λ fault p.
    some_at_once c.requires.several c.serve_many.result.0 fault
    (begun_at_once c.args.service.now called c.args.host.table c.serve_many.result.0 c.args.host.proofs _ c.lasts.result c.now-began.result fault _ _ _ is c.lasts.ensures c.now-began.ensures.told p))

pub returns-clause-last : goal.returns-clause-last
returns-clause-last g c is = fails_later _ _ _ _ _ c.now-began.ensures.no_recv_fault (c.serve_many.ensures.last is)
