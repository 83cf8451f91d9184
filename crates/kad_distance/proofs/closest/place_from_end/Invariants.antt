use Rattle.std.proofs.Common.{◌≡◌, ℕ, ◌≤◌, ◌<◌, false, length, get_or}
use Rattle.std.specs.Ordering.{is_lt}
use Rattle.kad_base.specs.declared.types.Contact.{Contact}
use Rattle.kad_distance.specs.Order.{closeness}
use Rattle.kad_distance.proofs.closest.place_from_end.Given as goal

abbrev pub invariant-loop-at : goal.invariant-loop-at
invariant-loop-at l = record {
  within : l.at ≤ length l.list;
  past : (k : ℕ) (d : Contact) → l.at ≤ k → k < length l.list → is_lt (closeness l.target (get_or l.list k d) l.contact) ≡ false;
}

abbrev pub decreases-loop-at : goal.decreases-loop-at
decreases-loop-at l = l.at
