use Rattle.std.proofs.Common.{◌≡◌, ◌↔◌}
use Rattle.seal_tags.proofs.Comparing.{SameBefore}
use Rattle.seal_tags.proofs.group.is_same.Given as goal

abbrev pub invariant-loop-i : goal.invariant-loop-i
invariant-loop-i l = (l.differing ≡ 0) ↔ SameBefore l.i l.theirs l.ours
