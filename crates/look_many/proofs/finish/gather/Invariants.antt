use Rattle.std.proofs.Common.{◌≡◌, ◌+◌, ◌≤◌, ◌++◌, length, map, vec_capacity}
use Rattle.std.specs.Prelude.{reverse}
use Rattle.look_many.specs.inner.Seats.{done_of}
use Rattle.look_many.proofs.finish.gather.Given as goal

abbrev pub invariant-loop-seeker : goal.invariant-loop-seeker
invariant-loop-seeker l = record {
  row : l.row.passes ++ map (λ k. k.pass) (reverse l.seekers.items) ≡ l.fn.row.passes ++ map (λ k. k.pass) (reverse l.fn.seekers.items);
  done : l.done.items ++ map done_of (reverse l.seekers.items) ≡ map done_of (reverse l.fn.seekers.items);
  room : length l.row.passes + length l.seekers.items ≤ l.row.room;
  done_room : length l.done.items + length l.seekers.items ≤ vec_capacity l.done;
}

abbrev pub decreases-loop-seeker : goal.decreases-loop-seeker
decreases-loop-seeker l = goal.left-loop-seeker l
