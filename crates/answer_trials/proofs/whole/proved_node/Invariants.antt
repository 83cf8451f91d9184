use Rattle.std.proofs.Common.{◌≡◌}
use Rattle.std.specs.List.{All}
use Rattle.kad_base.specs.Puzzles.{Passes}
use Rattle.kad_base.specs.declared.types.Policy.TheVariants.{Puzzled}
use Rattle.answer_trials.specs.declared.replies.TheConstants.{OWN}
use Rattle.answer_trials.proofs.whole.proved_node.Given as goal

abbrev pub invariant-loop-i : goal.invariant-loop-i
invariant-loop-i l = l.table.own ≡ OWN

abbrev pub invariant-loop-i-2 : goal.invariant-loop-i-2
invariant-loop-i-2 l = record {
  own : l.table.own ≡ OWN;
  passes : All (Passes (Puzzled 0 0)) l.proofs;
}
