use Rattle.std.proofs.Common.{◌≡◌, length}
use Rattle.std.specs.List.{list_any}
use Rattle.kad_krpc.specs.Asking.{is_word, names}
use Rattle.kad_krpc.proofs.ask.names.Given as goal

-- the word is among those that are left, or not at all
abbrev pub invariant-loop-item : goal.invariant-loop-item
invariant-loop-item l = list_any (is_word l.fn.word) l.items ≡ names l.fn.word l.fn.value

abbrev pub decreases-loop-item : goal.decreases-loop-item
decreases-loop-item l = length l.items
