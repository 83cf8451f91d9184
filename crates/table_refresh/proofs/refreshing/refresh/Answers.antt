use Rattle.std.proofs.Common.{◌∙◌}
use Rattle.table_refresh.proofs.Wholly.{refreshed_ok, refreshed_err}
use Rattle.kad_base.proofs.Failing.{fails_later}
use Rattle.table_refresh.proofs.refreshing.refresh.Goals as goal

pub returns-clause-refreshed : goal.returns-clause-refreshed
returns-clause-refreshed g c =
    refreshed_ok c.in-Ok.plan.own c.args.setting (g.G.SealCheck.accepted c.args.seal.now) c.args.table c.as_slice-due.result.now c.args.words.now c.ping_all-ended.new.words c.now.result c.ping_all-ended.new.work _ _ _ c.ping_all-ended.result
    c.in-Ok.ensures.own (c.as_slice-due.ensures ∙ c.in-Ok.ensures.due) c.now.ensures.told c.ping_all-ended.ensures.few c.ping_all-ended.ensures.ok

pub returns-clause-unfinished : goal.returns-clause-unfinished
returns-clause-unfinished g c =
    refreshed_err c.in-Ok.plan.own c.args.setting (g.G.SealCheck.accepted c.args.seal.now) c.args.table c.as_slice-due.result.now c.args.words.now c.ping_all-ended.new.words c.now.result c.ping_all-ended.new.work.table _ _ _ c.ping_all-ended.result
    c.in-Ok.ensures.own (c.as_slice-due.ensures ∙ c.in-Ok.ensures.due) c.now.ensures.told c.ping_all-ended.ensures.ends

pub returns-clause-last : goal.returns-clause-last
returns-clause-last g c is = fails_later _ _ _ _ _ c.now.ensures.no_recv_fault (c.ping_all-ended.ensures.last is)
