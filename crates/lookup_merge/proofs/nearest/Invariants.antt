use Rattle.std.proofs.Common.{◌≡◌, drop, None}
use Rattle.kad_distance.specs.Order.{closeness}
use Rattle.lookup_merge.specs.Rests.{rests, nearest_of}
use Rattle.lookup_merge.proofs.nearest.Given as goal

abbrev pub invariant-loop-i : goal.invariant-loop-i
invariant-loop-i l = nearest_of (closeness l.target) l.best (rests (drop l.i l.lists) (drop l.i l.places)) ≡ nearest_of (closeness l.target) None (rests l.lists l.places)
