use Rattle.std.proofs.Common.{◌≡◌, take}
use Rattle.std.specs.Prelude.{map}
use Rattle.lookup_core.specs.Quest.{bare}
use Rattle.lookup_core.proofs.quest.bare_reports.Given as goal

abbrev pub invariant-loop-i : goal.invariant-loop-i
invariant-loop-i g l = l.reports ≡ map bare (take l.i l.contacts)
