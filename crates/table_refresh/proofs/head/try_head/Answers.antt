use Rattle.std.proofs.Common.{refl}
use Rattle.table_refresh.specs.declared.types.Progress.{Progress}
use Rattle.table_refresh.proofs.Trying.{unsent_tries, sent_ok, sent_err}
use Rattle.kad_base.proofs.Failing.{fails_later}
use Rattle.table_refresh.proofs.head.try_head.Goals as goal

pub returns-then-not-send_ping-clause-ok : goal.returns-then-not-send_ping-clause-ok
returns-then-not-send_ping-clause-ok g c =
    let old : Progress = c.args.work.now in
    unsent_tries c.args.setting.now (g.G.SealCheck.accepted c.args.seal.now) c.args.head c.args.words.now c.open_ping-query.new.words old (record old { table = c.notify_failed.new.table }) c.notify_failed.result c.open_ping-query.result _ _
    (record { query = c.open_ping-query.ensures.query; drawn = c.open_ping-query.ensures.words }) c.notify_failed.ensures refl refl (c.if-not-send_ping.ensures.unsent refl)

pub returns-clause-ok : goal.returns-clause-ok
returns-clause-ok g c =
    sent_ok c.args.setting.now (g.G.SealCheck.accepted c.args.seal.now) c.args.head c.args.words.now c.open_ping-query.new.words c.args.work.now c.await_reply.new.work c.open_ping-query.result _ _ _ c.await_reply.result
    (record { query = c.open_ping-query.ensures.query; drawn = c.open_ping-query.ensures.words }) (c.if-not-send_ping.ensures.sent refl) c.await_reply.ensures.ok

pub returns-clause-ends : goal.returns-clause-ends
returns-clause-ends g c =
    sent_err c.args.setting.now (g.G.SealCheck.accepted c.args.seal.now) c.args.head c.args.words.now c.open_ping-query.new.words c.args.work.now c.await_reply.new.work.table c.open_ping-query.result _ _ _ c.await_reply.result
    (record { query = c.open_ping-query.ensures.query; drawn = c.open_ping-query.ensures.words }) (c.if-not-send_ping.ensures.sent refl) c.await_reply.ensures.ends

pub returns-clause-last : goal.returns-clause-last
returns-clause-last g c is = fails_later _ _ _ _ _ c.if-not-send_ping.ensures.recv_faults (c.await_reply.ensures.last is)
