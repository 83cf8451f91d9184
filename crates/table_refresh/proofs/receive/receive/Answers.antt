use Rattle.std.proofs.Common.{take}
use Rattle.kad_base.proofs.Happening.{happens_these}
use Rattle.table_refresh.proofs.Receiving.{got_ok, got_err, takes_quiet}
use Rattle.kad_base.proofs.Failing.{fails_here}
use Rattle.table_refresh.proofs.receive.receive.Goals as goal

pub returns-in-Ok-Packet-clause-ok : goal.returns-in-Ok-Packet-clause-ok
returns-in-Ok-Packet-clause-ok g c =
    let p = c.in-Ok-Packet in
    let grows = rw p.field-0-is at p.ensures.ok in
    got_ok c.args.setting.now (g.G.SealCheck.accepted c.args.seal.now) c.args.query.now p.from (take p.len c.recv.new.buf) p.at c.args.work.now c.take_datagram.new.work _ _ c.take_datagram.result grows c.take_datagram.ensures.ok

pub returns-in-Ok-Packet-clause-stops : goal.returns-in-Ok-Packet-clause-stops
returns-in-Ok-Packet-clause-stops g c =
    let p = c.in-Ok-Packet in
    let grows = rw p.field-0-is at p.ensures.ok in
    got_err c.args.setting.now.sealed (g.G.SealCheck.accepted c.args.seal.now) c.args.query.now p.from (take p.len c.recv.new.buf) p.at c.args.work.now _ _ c.take_datagram.result grows c.take_datagram.ensures.err

pub returns-in-Ok-Quiet-clause-ok : goal.returns-in-Ok-Quiet-clause-ok
returns-in-Ok-Quiet-clause-ok g c =
    let p = c.in-Ok-Quiet in
    let grows = rw p.field-0-is at p.ensures.ok in
    happens_these _ _ _ _ grows (takes_quiet c.args.setting.now (g.G.SealCheck.accepted c.args.seal.now) c.args.query.now p.at c.args.work.now c.take_none.new.work c.take_none.result c.take_none.ensures)

pub returns-in-Err-clause-last : goal.returns-in-Err-clause-last
returns-in-Err-clause-last g c is = fails_here _ _ _ _ c.in-Err.ensures.failed c.in-Err.ensures.err
