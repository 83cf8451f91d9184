use Rattle.std.proofs.Common.{refl}
use Rattle.lookup_core.proofs.Settling.{ends_found}
use Rattle.look_many.proofs.Seating.{is_outcome}
use Rattle.look_many.proofs.finish.finish.Goals as goal

pub returns-in-Found-clause-found : goal.returns-in-Found-clause-found
returns-in-Found-clause-found c =
    is_outcome c.args.done c.apply.new.self _ c.in-Found.ensures.after c.in-Found.ensures.step c.into_journal.ensures.journal c.into_journal.ensures.legal (record { peers = c.in_order.ensures; tokens = refl; items = refl })

pub unreachable-requires : goal.unreachable-requires
unreachable-requires c = ends_found c.args.done.book.setting c.args.done.book.journal c.apply.result c.requires c.in_default.not-Found c.in_default.not-NoMemory c.apply.ensures.step
