use Rattle.lookup_core.proofs.Settling.{ends_found}
use Rattle.look_many.proofs.plan.found_by.Goals as goal

pub unreachable-requires : goal.unreachable-requires
unreachable-requires c = ends_found c.args.book.now.setting c.args.book.now.journal c.apply.result c.requires c.in_default.not-Found c.in_default.not-NoMemory c.apply.ensures.step
