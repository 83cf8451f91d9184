use Rattle.std.proofs.Common.{◌≡◌, ◌≤◌, length}
use Rattle.std.specs.List.Sorted.{IsStrictlySortedBy}
use Rattle.std.specs.Map.{keys_of}
use Rattle.aged_map.specs.Ages.{purged}
use Rattle.aged_map.specs.Marks.{AreMarked}
use Rattle.aged_map.proofs.map.drop_old.Given as goal

abbrev pub invariant-loop : goal.invariant-loop
invariant-loop g l = record {
  kept : purged g.V.Aged.moment l.age l.at l.held.entries ≡ purged g.V.Aged.moment l.age l.at l.initial.held.entries;
  marked : AreMarked g.K.Ord.cmp g.V.Aged.moment l.held.entries l.ages.keys;
  sorted : IsStrictlySortedBy g.K.Ord.cmp (keys_of l.held.entries);
  fewer : length l.held.entries ≤ length l.initial.held.entries;
}

abbrev pub decreases-loop : goal.decreases-loop
decreases-loop g l = length l.ages.keys
