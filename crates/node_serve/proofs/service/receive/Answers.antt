use Rattle.std.proofs.Common.{take}
use Rattle.node_serve.proofs.Receiving.{datagram_came}
use Rattle.kad_base.proofs.Failing.{fails_here}
use Rattle.node_serve.proofs.service.receive.Goals as goal

pub returns-in-Ok-clause-ok : goal.returns-in-Ok-clause-ok
returns-in-Ok-clause-ok g c =
    let p = c.in-Ok-Packet in
    let grows = rw p.field-0-is at p.ensures.ok in
    datagram_came (g.G.Seal.tag_of c.args.seal.now) c.args.end c.args.server.now c.answer_one.new.node p.from (take p.len c.recv.new.buf) c.waits_to-until.result p.at c.in-Ok.sent _ _ _ c.waits_to-until.ensures grows c.in-Ok.ensures.ok

pub returns-in-Err-clause-last : goal.returns-in-Err-clause-last
returns-in-Err-clause-last g c is = fails_here _ _ _ _ c.in-Err.ensures.failed c.in-Err.ensures.err
