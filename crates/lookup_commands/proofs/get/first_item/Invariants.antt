use Rattle.std.proofs.Common.{take}
use Rattle.lookup_commands.proofs.Getting.{None_of}
use Rattle.lookup_commands.proofs.get.first_item.Given as goal

abbrev pub invariant-loop-item : goal.invariant-loop-item
invariant-loop-item l = None_of l.key (take l.item-index l.items)
