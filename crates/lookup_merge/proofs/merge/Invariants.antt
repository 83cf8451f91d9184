use Rattle.std.proofs.Common.{◌≡◌, ◌-◌, ◌++◌, length, take}
use Rattle.kad_distance.specs.Order.{closeness}
use Rattle.kad_distance.specs.KClosest.{each_once}
use Rattle.lookup_merge.specs.Rests.{rests}
use Rattle.lookup_merge.proofs.Merged.{joined}
use Rattle.lookup_merge.proofs.merge.Given as goal

abbrev pub invariant-loop : goal.invariant-loop
invariant-loop l = record {
  same : length l.places.items ≡ length l.lists;
  whole : l.found ++ take (l.k - l.counter) (each_once (closeness l.target) (joined (rests l.lists l.places.items))) ≡ take l.k (each_once (closeness l.target) (joined l.lists));
}
