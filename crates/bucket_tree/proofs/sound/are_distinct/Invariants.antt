use Rattle.std.proofs.Common.{◌≡◌, drop}
use Rattle.bucket_tree.specs.States.{distinct}
use Rattle.bucket_tree.proofs.sound.are_distinct.Given as goal

abbrev pub invariant-loop-at : goal.invariant-loop-at
invariant-loop-at l = distinct (drop l.at l.contacts) ≡ distinct l.contacts
