use Rattle.std.proofs.Common.{◌≡◌, ◌+◌, ◌≤◌, ◌++◌, length, vec_capacity}
use Rattle.std.specs.Prelude.{reverse}
use Rattle.look_many.proofs.opening.stack_up.Given as goal

abbrev pub invariant-loop-pass : goal.invariant-loop-pass
invariant-loop-pass l = record {
  all : l.row.passes ++ reverse l.stack.items ≡ l.fn.row.passes;
  room : length l.row.passes + length l.stack.items ≤ vec_capacity l.stack;
  same : l.row.room ≡ l.fn.row.room;
}

abbrev pub decreases-loop-pass : goal.decreases-loop-pass
decreases-loop-pass l = length l.row.passes
