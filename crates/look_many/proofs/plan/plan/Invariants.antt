use Rattle.std.proofs.Common.{◌≡◌, ◌++◌, drop}
use Rattle.look_many.specs.inner.Kept.{follows_kept}
use Rattle.look_many.proofs.plan.plan.Given as goal

abbrev pub invariant-loop-i : goal.invariant-loop-i
invariant-loop-i l = record {
  same : l.seekers ≡ l.fn.seekers;
  all : l.plan ++ follows_kept l.own l.i (drop l.i l.fn.jobs) (drop l.i l.fn.seekers) ≡ follows_kept l.own 0 l.fn.jobs l.fn.seekers;
}
