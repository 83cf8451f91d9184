use Rattle.lookup_core.proofs.Settling.{ends_found}
use Rattle.lookup_run.proofs.Looking.{is_done}
use Rattle.lookup_run.proofs.driver.finish.Goals as goal

pub returns-in-Found-clause-done : goal.returns-in-Found-clause-done
returns-in-Found-clause-done c = is_done c.args.book c.apply.new.self _ c.in-Found.ensures.after c.in-Found.ensures.step c.into_journal.ensures.journal c.into_journal.ensures.legal

pub unreachable-requires : goal.unreachable-requires
unreachable-requires c = ends_found c.args.book.setting c.args.book.journal c.apply.result c.requires c.in_default.not-Found c.in_default.not-NoMemory c.apply.ensures.step
