use Rattle.std.proofs.Common.{◌≡◌, ◌*◌, [], ◌∷◌, ◌++◌, drop}
use Rattle.std.specs.Prelude.{codes}
use Rattle.kad_text.specs.Text.{groups_after}
use Rattle.kad_text.proofs.print.put_v6.Given as goal

abbrev pub invariant-loop-i : goal.invariant-loop-i
invariant-loop-i l = l.output ++ groups_after (l.lead ∷ []) (drop (2 * l.i) l.ip) ≡ l.initial.output ++ groups_after (codes "[") l.ip
