use Rattle.std.proofs.Common.{◌≡◌, ◌-◌, ◌≤◌, length, drop, min}
use Rattle.kad_bencode.specs.Keys.{key_cmp}
use Rattle.kad_bencode.proofs.filed.is_above.Given as goal

-- what is left of the keys decides
abbrev pub invariant-loop-at : goal.invariant-loop-at
invariant-loop-at l = record {
  within : l.at ≤ min (length l.a) (length l.b);
  left : key_cmp l.a l.b ≡ key_cmp (drop l.at l.a) (drop l.at l.b);
}

abbrev pub decreases-loop-at : goal.decreases-loop-at
decreases-loop-at l = l.both - l.at
