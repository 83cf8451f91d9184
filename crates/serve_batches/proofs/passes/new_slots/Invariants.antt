use Rattle.std.proofs.Common.{◌≡◌, ◌≤◌, length, vec_capacity}
use Rattle.serve_batches.proofs.passes.new_slots.Given as goal

abbrev pub invariant-loop-i : goal.invariant-loop-i
invariant-loop-i l = record {
  len : length l.slots.items ≡ l.i;
  room : l.count ≤ vec_capacity l.slots;
}
