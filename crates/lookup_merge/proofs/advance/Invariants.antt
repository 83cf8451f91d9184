use Rattle.std.proofs.Common.{◌≡◌, ◌++◌, length, map, take, drop}
use Rattle.kad_distance.specs.Order.{closeness}
use Rattle.lookup_merge.specs.Rests.{rests, after}
use Rattle.lookup_merge.proofs.advance.Given as goal

abbrev pub invariant-loop-i : goal.invariant-loop-i
invariant-loop-i l = record {
  same : length l.places ≡ length l.lists;
  passed : rests (take l.i l.lists) (take l.i l.places) ++ map (after (closeness l.target) l.contact) (rests (drop l.i l.lists) (drop l.i l.places)) ≡ map (after (closeness l.target) l.contact) (rests l.lists l.initial.places);
}
