use Rattle.std.proofs.Common.{◌≤◌, length, sym, subst}
use Rattle.kad_base.specs.Limits.{max_reports}
use Rattle.kad_base.specs.declared.types.Report.{Report}
use Rattle.std.specs.Prelude.{List}
use Rattle.kad_krpc.specs.Views.{answer_seen}
use Rattle.lookup_core.proofs.Hearing.{few_reports, own_heard}
use Rattle.lookup_core.proofs.on_reply.hear_answer.Goals as goal

pub tell_heard-requires-clause-few : goal.tell_heard-requires-clause-few
tell_heard-requires-clause-few c = subst (λ (r : List Report). length r ≤ max_reports) (sym c.in_ok-reports.ensures) (few_reports c.args.quest.now (answer_seen c.args.answer))

pub returns-clause-hears : goal.returns-clause-hears
returns-clause-hears c = own_heard c.args.quest.now c.args.contact c.args.answer c.in_ok-reports.reports c.args.book.now c.tell_heard.new.book (c.is_own.ensures.0 c.if-not-is_own.false) c.in_ok-reports.ensures c.in_ok-tell_heard.ensures.ok
