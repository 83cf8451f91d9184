use Rattle.std.proofs.Common.{◌≡◌, length}
use Rattle.serve_batches.specs.Ring.{ring}
use Rattle.serve_batches.specs.Crew.{AllWent, batch_slots}
use Rattle.serve_batches.proofs.replying.went.Given as goal

abbrev pub invariant-loop-j : goal.invariant-loop-j
invariant-loop-j l = record {
  place : l.place ≡ ring (length l.crew) l.j;
  went : AllWent (batch_slots l.crew l.j);
}
