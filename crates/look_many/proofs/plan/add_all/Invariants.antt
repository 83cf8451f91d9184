use Rattle.std.proofs.Common.{◌≡◌, ◌++◌, length, map}
use Rattle.std.specs.Prelude.{reverse}
use Rattle.look_many.specs.Planned.{by}
use Rattle.look_many.proofs.plan.add_all.Given as goal

abbrev pub invariant-loop-announcement : goal.invariant-loop-announcement
invariant-loop-announcement l = record { all : l.plan ++ map (by l.owner) (reverse l.left.items) ≡ l.fn.plan ++ map (by l.owner) l.fn.owed }

abbrev pub decreases-loop-announcement : goal.decreases-loop-announcement
decreases-loop-announcement l = length l.left.items
