use Rattle.std.proofs.Common.{◌≡◌, ◌≤◌, ◌*◌, length, vec_capacity}
use Rattle.std.specs.List.{All}
use Rattle.serve_batches.proofs.passes.all_slots.Given as goal

abbrev pub invariant-loop-w : goal.invariant-loop-w
invariant-loop-w l = record {
  len : length l.all.items ≡ l.w;
  room : l.n ≤ vec_capacity l.all;
  roomy : All (λ s. 32 ≤ length s.items * l.n) l.all.items;
}
